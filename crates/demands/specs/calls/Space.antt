-- What the public functions of `space` promise.
use Rattle.std.specs.Prelude.{length, Result}
use contract.Lifetimes.{Lfts}
use denote.Ref.{at_last}
use Rattle.octets.specs.declared.refusals.Refusal.{Refusal}
use Rattle.space.specs.Space.{space_read_rows, space_refused, space_reading, space_reads, space_rows, space_writing, space_writes}
use Rattle.space.specs.declared.SpaceHeader.{SpaceHeader}
use Rattle.space.proofs.read_space.Reads as read_space_fn
use Rattle.space.proofs.write_space.Reads as write_space_fn
use Rattle.demands.specs.Promises.{Slice, MutSlice, Left, as_read, Promised}

-- a space packet's header, read and written
pub record OfSpace : Type 0 where
  pub read_space : (κs : Lfts 1) (os : Slice)
      → Promised (as_read (read_space_fn.Pre κs (os, tt)) (λ (r : Result SpaceHeader Refusal). read_space_fn.Post κs (os, tt) r (os, tt)))
      (space_reading os.now) (space_read_rows os.now) space_reads (λ a. a.refusal) space_refused
  pub write_space : (κs : Lfts 1) (h : SpaceHeader) (out : MutSlice)
      → Promised (as_read (write_space_fn.Pre κs (h, (out, tt))) (λ (o : Left (Result (Unit {0}) Refusal)). write_space_fn.Post κs (h, (out, tt)) o.answer (h, (at_last out o.lent, tt))))
      (space_writing h out.now) (space_rows h (length out.now)) (λ o. space_writes o.answer o.lent) (λ a. a.refusal)
      (λ n. record { refusal = n; output = out.now })

-- What the public functions of `trailer` promise.
use Rattle.std.specs.Prelude.{ℕ, Bool, List}
use contract.Lifetimes.{Lfts}
use denote.Ref.{at_last}
use Rattle.trailer.specs.Division.{remainder}
use Rattle.trailer.specs.Trailer.{extra, wrong, ended}
use Rattle.trailer.proofs.remainder.Reads as remainder_fn
use Rattle.trailer.proofs.extra.Reads as extra_fn
use Rattle.trailer.proofs.is_wrong.Reads as is_wrong_fn
use Rattle.trailer.proofs.end_frame.Reads as end_frame_fn
use Rattle.demands.specs.Promises.{Slice, MutSlice, as_read, Is}

-- the remainder; and the trailer as a setting: how many octets it has, whether a frame's is wrong, and a frame ended by it
pub record OfTrailer : Type 0 where
  pub remainder : (κs : Lfts 1) (os : Slice)
      → Is (as_read (remainder_fn.Pre κs (os, tt)) (λ r. remainder_fn.Post κs (os, tt) r (os, tt))) (remainder os.now)
  pub extra : (on : Bool) → Is (as_read (extra_fn.Pre tt (on, tt)) (λ r. extra_fn.Post tt (on, tt) r (on, tt))) (extra on)
  pub is_wrong : (κs : Lfts 1) (on : Bool) (f : Slice)
      → Is (as_read (is_wrong_fn.Pre κs (on, (f, tt))) (λ r. is_wrong_fn.Post κs (on, (f, tt)) r (on, (f, tt)))) (wrong on f.now)
  -- nothing is answered: an outcome is the octets lent
  pub end_frame : (κs : Lfts 1) (on : Bool) (buf : MutSlice) (at : ℕ)
      → Is (as_read (end_frame_fn.Pre κs (on, (buf, (at, tt)))) (λ (o : List ℕ). end_frame_fn.Post κs (on, (buf, (at, tt))) tt (on, (at_last buf o, (at, tt)))))
      (ended on buf.now at)

-- What the public functions of `wrapping` promise.
use Rattle.std.specs.Prelude.{ℕ, ◌-◌, false, length, Result}
use contract.Lifetimes.{Lfts}
use denote.Ref.{at_last}
use Rattle.octets.specs.Basics.{over}
use Rattle.octets.specs.declared.refusals.Refusal.{Refusal}
use Rattle.wrapping.specs.Idle.{idle_packet, idle_packet_rows}
use Rattle.wrapping.specs.Wrap.{wrapped_total, wrap_rows, wrapping, wraps}
use Rattle.wrapping.proofs.wrap.Reads as wrap_fn
use Rattle.wrapping.proofs.write_idle.Reads as write_idle_fn
use Rattle.demands.specs.Promises.{Slice, MutSlice, Left, Contract, as_read, Promised, Writes}

abbrev pub wrap_contract : (κs : Lfts 2) (limit protocol extension : ℕ) (unit : Slice) (out : MutSlice) → Contract (Left (Result ℕ Refusal))
wrap_contract κs limit protocol extension unit out =
    as_read (wrap_fn.Pre κs (limit, (protocol, (extension, (unit, (out, tt))))))
    (λ o. wrap_fn.Post κs (limit, (protocol, (extension, (unit, (out, tt))))) o.answer (limit, (protocol, (extension, (unit, (at_last out o.lent, tt))))))

-- wrapping, and the idle packet
pub record OfWrapping : Type 0 where
  pub wrap : (κs : Lfts 2) (limit protocol extension : ℕ) (unit : Slice) (out : MutSlice)
      → Promised (wrap_contract κs limit protocol extension unit out) (wrapping limit protocol extension unit.now out.now)
      (wrap_rows limit protocol extension (length unit.now) (wrapped_total protocol (length unit.now)) (length out.now))
      (λ o. wraps o.answer o.lent) (λ a. a.refusal) (λ n. record { accepted = false; refusal = n; damage = 0; total = 0; output = out.now })
  pub write_idle : (κs : Lfts 1) (out : MutSlice) (at r fill : ℕ)
      → Writes (as_read (write_idle_fn.Pre κs (out, (at, (r, (fill, tt)))))
      (λ o. write_idle_fn.Post κs (out, (at, (r, (fill, tt)))) o.answer (at_last out o.lent, (at, (r, (fill, tt))))))
      (idle_packet_rows r (length out.now - at)) (over out.now at (idle_packet fill r)) out.now

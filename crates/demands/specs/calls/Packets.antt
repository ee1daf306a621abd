-- What the public functions of `packets` promise.
use Rattle.std.specs.Prelude.{ℕ, ◌≡◌, List, [], ◌∷◌, false, not, Option, Result, Err}
use contract.Lifetimes.{Lfts}
use Rattle.octets.specs.Basics.{and, row}
use Rattle.octets.specs.declared.refusals.Refusal.{Refusal}
use Rattle.packets.specs.Packet.{limit_in_range, header_length, look, damage_in, carried, is_idle, well_formed}
use Rattle.packets.specs.Damage.{damage_number, damage_or_0}
use Rattle.packets.specs.Header.{bare, reading, seen}
use Rattle.packets.specs.Header as header
use Rattle.packets.specs.Unwrap.{unwrap_rows, unwrapping, unwraps, unit_part}
use Rattle.packets.specs.declared.damage.Damage.{Damage}
use Rattle.packets.specs.declared.damage.Refused.{Refused}
use Rattle.packets.specs.declared.Header.{Header}
use Rattle.packets.specs.declared.Seen.{Seen}
use Rattle.packets.specs.declared.unwrapping.Unit as held
use Rattle.packets.proofs.damage.Damage.number.Reads as damage_number_fn
use Rattle.packets.proofs.in_range.Reads as limit_in_range_fn
use Rattle.packets.proofs.unwrap.Reads as unwrap_fn
use Rattle.packets.proofs.unit_part.Reads as unit_part_fn
use Rattle.packets.proofs.read_header.Reads as read_header_fn
use Rattle.packets.proofs.read_length.Reads as read_length_fn
use Rattle.packets.proofs.damage_in.Reads as damage_in_fn
use Rattle.packets.proofs.header_damage.Reads as header_damage_fn
use Rattle.packets.proofs.carried.Reads as carried_fn
use Rattle.packets.proofs.is_idle.Reads as is_idle_fn
use Rattle.packets.proofs.header_length.Reads as header_length_fn
use Rattle.packets.proofs.well_formed.Reads as well_formed_fn
use Rattle.demands.specs.Promises.{Slice, lying, Contract, as_read, Gives, Is, Promised}

-- a call that answers what is wrong with a header, as a number, 0 where nothing is
abbrev pub Tells : Contract (Option Damage) → ℕ → Type 0
Tells c given = Gives c damage_or_0 given

-- what is answered of a packet to be unwrapped
abbrev pub Unwrapped : Type 0
Unwrapped = Result held.Unit Refused

-- the numbers of damage, the limits that can be set, the header reader, the length, the damage and the idle mark alone, what a refusal says of
-- a packet, the length of a header, well-formed, and unwrapping with the part that is handed back, empty where it is refused
pub record OfPackets : Type 0 where
  pub damage_number : (d : Damage) → Is (as_read (damage_number_fn.Pre tt (d, tt)) (λ n. damage_number_fn.Post tt (d, tt) n (d, tt))) (damage_number d)
  pub in_range : (limit : ℕ)
      → Is (as_read (limit_in_range_fn.Pre tt (limit, tt)) (λ r. limit_in_range_fn.Post tt (limit, tt) r (limit, tt))) (limit_in_range limit)
  pub read_header : (κs : Lfts 1) (limit : ℕ) (os : Slice)
      → Promised (as_read (read_header_fn.Pre κs (limit, (os, tt))) (λ (r : Result Header Refusal). read_header_fn.Post κs (limit, (os, tt)) r (limit, (os, tt))))
      (reading limit os.now) (row 1 (not (limit_in_range limit)) ∷ []) header.answer (λ a. a.refusal) (λ n. bare n 0 0)
  pub read_length : (κs : Lfts 1) (limit : ℕ) (os : Slice)
      → Gives (as_read (read_length_fn.Pre κs (limit, (os, tt))) (λ (r : Seen). read_length_fn.Post κs (limit, (os, tt)) r (limit, (os, tt))))
      seen (look limit os.now)
  pub damage_in : (found : Seen)
      → Tells (as_read (damage_in_fn.Pre tt (found, tt)) (λ r. damage_in_fn.Post tt (found, tt) r (found, tt))) (damage_in (seen found))
  pub header_damage : (h : Result Header Refusal)
      → Tells (as_read (header_damage_fn.Pre tt (h, tt)) (λ r. header_damage_fn.Post tt (h, tt) r (h, tt))) (header.answer h).damage
  pub is_idle : (κs : Lfts 1) (os : Slice)
      → Is (as_read (is_idle_fn.Pre κs (os, tt)) (λ r. is_idle_fn.Post κs (os, tt) r (os, tt))) (is_idle os.now)
  pub header_length : (code : ℕ)
      → Is (as_read (header_length_fn.Pre tt (code, tt)) (λ r. header_length_fn.Post tt (code, tt) r (code, tt))) (header_length code)
  pub well_formed : (κs : Lfts 1) (limit : ℕ) (p : Slice)
      → Is (as_read (well_formed_fn.Pre κs (limit, (p, tt))) (λ r. well_formed_fn.Post κs (limit, (p, tt)) r (limit, (p, tt))))
      (and (limit_in_range limit) (well_formed limit p.now))
  pub unwrap : (κs : Lfts 1) (limit : ℕ) (p : Slice)
      → Promised (as_read (unwrap_fn.Pre κs (limit, (p, tt))) (λ (r : Unwrapped). unwrap_fn.Post κs (limit, (p, tt)) r (limit, (p, tt))))
      (unwrapping limit p.now) (unwrap_rows limit p.now) unwraps (λ a. a.refusal)
      (λ n. record { accepted = false; refusal = n; damage = carried n limit p.now; protocol = 0; extension = 0; start = 0; size = 0 })
  pub no_unit : (p : List ℕ) (r : Refused) → unit_part p (Err r) ≡ []
  -- a part that is handed back lies somewhere: an outcome is its octets
  pub unit_part : (κs : Lfts 1) (p : Slice) (u : Unwrapped) (part : Slice)
      → Is (as_read (unit_part_fn.Pre κs (p, (u, tt))) (λ r. unit_part_fn.Post κs (p, (u, tt)) (lying part r) (p, (u, tt)))) (unit_part p.now u)
  pub carried : (κs : Lfts 1) (refusal limit : ℕ) (p : Slice)
      → Tells (as_read (carried_fn.Pre κs (refusal, (limit, (p, tt)))) (λ r. carried_fn.Post κs (refusal, (limit, (p, tt))) r (refusal, (limit, (p, tt)))))
      (carried refusal limit p.now)

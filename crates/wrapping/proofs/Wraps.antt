-- Wrapping: what a unit that is not refused keeps to, and what is written of it.
-- Assumes nothing.
use mathlib.Core.Path.{◌≡◌, refl, ap, ◌∙◌}
use mathlib.Core.List.{List, ◌++◌}
use mathlib.Core.Bool.{true}
use Prim.Native.Nat.{ℕ, ◌+◌, ◌-◌, ◌≤◌}
use native.Mathlib.Omega.{arith}
use lib.ListN.{length, take}
use lib.Seq.{take-length}
use borrow.Author.Tests.{ltb-false, eqb-false, eq-eqb, not-false}
use Rattle.octets.specs.Basics.{first, over, laid_part}
use Rattle.octets.proofs.Choices.{split, none_holds, or_false}
use Rattle.octets.proofs.Written.{part_within, length_over, over_over}
use Rattle.packets.specs.Packet.{header_length}
use Rattle.wrapping.specs.Front.{front}
use Rattle.wrapping.specs.Wrap.{length_of_length_for, wrapped_total, wrapped, wrap_in_range, wrap_rows, wrapping}
use Rattle.wrapping.proofs.Fronts.{length_front}

-- what holds where no row does
pub record Admitted (limit protocol extension n total room : ℕ) : Type 0 where
  pub ranged : wrap_in_range limit protocol extension ≡ true
  pub some : 1 ≤ n
  pub within : total ≤ limit
  pub roomy : total ≤ room

module _ (limit protocol extension n total room : ℕ) where
  pub admitted : first (wrap_rows limit protocol extension n total room) ≡ 0 → Admitted limit protocol extension n total room
  unfolding wrap_rows
  admitted e =
      let a = none_holds 0 _ _ e in
      let b = none_holds 7 _ _ a.1 in
      let d = none_holds 1 _ _ b.1 in
      let u = or_false _ _ b.0 in
      let m : n ≡ 0 → ⊥ = eqb-false n 0 u.0 in
      record {
        ranged = not-false _ a.0;
        some = split 1 n (λ h. h) (λ h. absurd (m (omega arith)));
        within = ltb-false limit total u.1;
        roomy = ltb-false room total d.0;
      }

-- a list laid behind what was written from the front
behind : (d a : List ℕ) (at : ℕ) (unit : List ℕ) → length a ≡ at → at + length unit ≤ length d
    → laid_part (over d 0 a) at 0 (length unit) unit ≡ over d 0 (a ++ unit)
behind d a at unit e h =
    let n : length unit - 0 ≡ length unit = omega arith in
    let room : length (over d 0 a) ≡ length d = length_over d 0 a (omega arith) in
    let from : at ≡ 0 + length a = omega arith in
    part_within (over d 0 a) at 0 (length unit) unit (omega arith) (omega arith) (omega arith)
    ∙ ap (λ (k : ℕ). over (over d 0 a) at (take k unit)) n
    ∙ ap (over (over d 0 a) at) (take-length unit)
    ∙ ap (λ (k : ℕ). over (over d 0 a) k unit) from
    ∙ over_over d 0 a unit (omega arith)

-- the header, and then the unit
pub unit_written : (protocol extension : ℕ) (unit output : List ℕ) → wrapped_total protocol (length unit) ≤ length output
    → laid_part (over output 0 (front protocol extension (length_of_length_for protocol (length unit)) (wrapped_total protocol (length unit))))
    (header_length (length_of_length_for protocol (length unit))) 0 (length unit) unit
    ≡ over output 0 (wrapped protocol extension unit)
unfolding wrapped wrapped_total
unit_written protocol extension unit output h =
    let code : ℕ = length_of_length_for protocol (length unit) in
    let total : ℕ = wrapped_total protocol (length unit) in
    behind output (front protocol extension code total) (header_length code) unit (length_front protocol extension code total) (omega arith)

module _ (limit protocol extension : ℕ) (unit output : List ℕ) where
  abbrev total : ℕ
  total = wrapped_total protocol (length unit)

  abbrev refusal : ℕ
  refusal = first (wrap_rows limit protocol extension (length unit) total (length output))

  pub wrapping_done : refusal ≡ 0
      → wrapping limit protocol extension unit output ≡ record { accepted = true; refusal = 0; damage = 0; total = total; output = over output 0 (wrapped protocol extension unit) }
  unfolding wrapping
  wrapping_done h = rw (eq-eqb refusal 0 h) refl

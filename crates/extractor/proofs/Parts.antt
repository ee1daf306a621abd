-- The first octets of a list, laid over others from a place on.
-- Assumes nothing.
use mathlib.Core.Path.{◌≡◌, ap, ◌∙◌}
use mathlib.Core.List.{List}
use Prim.Native.Nat.{ℕ, ◌+◌, ◌-◌, ◌≤◌}
use native.Mathlib.Omega.{arith}
use lib.ListN.{length, take}
use Rattle.octets.specs.Basics.{over, laid_part}
use Rattle.octets.proofs.Written.{part_within}

-- the first n octets of s are laid over others
pub written_over : (d : List ℕ) (at n : ℕ) (s now : List ℕ) → now ≡ laid_part d at 0 n s → n ≤ length s → at + n ≤ length d → now ≡ over d at (take n s)
written_over d at n s now e h r =
    let whole : n - 0 ≡ n = omega arith in
    e ∙ part_within d at 0 n s (omega arith) h (omega arith) ∙ ap (λ (k : ℕ). over d at (take k s)) whole

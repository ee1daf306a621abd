-- Octets cut into parts of one size.
-- Assumes nothing.
use mathlib.Core.Path.{◌≡◌, refl, ap}
use mathlib.Core.List.{List, [], ◌∷◌, ◌++◌}
use Prim.Native.Nat.{ℕ, zero, suc, ◌+◌, ◌*◌, ◌≤◌}
use native.Mathlib.Nat.{zero-add, suc-add}
use native.Mathlib.Omega.{arith}
use lib.ListN.{length, take, drop, length-drop}
use lib.Seq.{length-take-le, take-append-le, drop-append-le}
use Rattle.octets.specs.Basics.{All, cut}

pub cut_many : (n size : ℕ) (os : List ℕ) → length (cut n size os) ≡ n
unfolding cut
cut_many zero size os = refl
cut_many (suc n) size os = ap suc (cut_many n size (drop size os))

pub cut_each : (n size : ℕ) (os : List ℕ) → n * size ≤ length os → All (λ (f : List ℕ). length f ≡ size) (cut n size os)
unfolding cut
cut_each zero size os h = tt
cut_each (suc n) size os h = (length-take-le size os (omega arith), cut_each n size (drop size os) (rw length-drop (omega arith)))

-- whole parts, and the parts of what lies behind them
pub cut_behind : (m n size : ℕ) (a b : List ℕ) → length a ≡ m * size → cut (m + n) size (a ++ b) ≡ cut m size a ++ cut n size b
unfolding cut
cut_behind zero n size [] b e = rw (zero-add n)
cut_behind zero n size (o ∷ os) b e = absurd (omega arith)
cut_behind (suc m) n size a b e =
    rw (suc-add m n, take-append-le size a b (omega arith), drop-append-le size a b (omega arith))
    (ap (λ (fs : List (List ℕ)). take size a ∷ fs) (cut_behind m n size (drop size a) b (rw length-drop (omega arith))))

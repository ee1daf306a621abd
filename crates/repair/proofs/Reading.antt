-- A word read by trying its pairs of places one after the other.
-- Assumes nothing.
use mathlib.Core.Path.{◌≡◌, refl, sym, ap, ◌∙◌, subst, subst⁻¹}
use mathlib.Core.Bool.{true, false}
use Prim.Native.Nat.{ℕ, ◌+◌, ◌*◌, ◌/◌, ◌^◌, ◌<◌, ◌≤◌}
use native.Mathlib.Omega.{arith}
use lib.Dec.{eqb}
use lib.Bits.{bit_xor}
use borrow.Author.Tests.{eqb-true, eqb-false}
use Rattle.repair.specs.Code.{symbol, checks, written, Written, reading, Near, read_as}
use Rattle.repair.specs.Values.{Candidate}
use Rattle.repair.proofs.Roots.{checks_lt}
use Rattle.repair.proofs.Words.{distance_none, apart_count, two_places}
use Rattle.repair.proofs.Nearest.{only_reading, refused_when_none}

-- ---- rightly written words, as they are tested

pub tested : (v : ℕ) → v < 16 ^ 10 → eqb v (written (v / 16 ^ 4)) ≡ true → Written v
tested v h t = record { six = v / 16 ^ 4; short = omega arith; is = eqb-true v (written (v / 16 ^ 4)) t }

pub again : (v : ℕ) → Written v → v ≡ written (v / 16 ^ 4)
unfolding written
again v w =
    let e : v ≡ w.six * 16 ^ 4 + checks w.six = w.is in
    let s : w.six ≡ v / 16 ^ 4 = omega (arith, checks_lt w.six) in
    e ∙ ap written s

-- a word that is rightly written is read as itself
pub read_itself : (w : ℕ) → w < 16 ^ 10 → eqb w (written (w / 16 ^ 4)) ≡ true → record { refusal = 0; read = w } ≡ reading w
read_itself w short t =
    only_reading w (record { refusal = 0; read = w }) (read_as refl (record { right = tested w short t; close = omega (arith, distance_none 10 w) }))

-- ---- the pairs

abbrev Agree : ℕ → ℕ → ℕ → ℕ → Type 0
Agree w v p q = (k : ℕ) → k < 10 → (k ≡ p → ⊥) → (k ≡ q → ⊥) → symbol k (bit_xor w v) ≡ 0

-- no rightly written word differs from w at the places p and q alone
abbrev pub Missed : ℕ → ℕ → ℕ → Type 0
Missed w p q = (v : ℕ) → Written v → Agree w v p q → ⊥

pub missed : (w p q r : ℕ) → Candidate w p q r → eqb r (written (r / 16 ^ 4)) ≡ false → Missed w p q
missed w p q r candidate t v right agree =
    let e : r ≡ v = candidate.is v right agree in
    eqb-false r (written (r / 16 ^ 4)) t (subst⁻¹ (λ (x : ℕ). x ≡ written (x / 16 ^ 4)) e (again v right))

-- a word is read as the candidate that is rightly written
pub read_found : (w p q v : ℕ) → Candidate w p q v → eqb v (written (v / 16 ^ 4)) ≡ true → record { refusal = 0; read = v } ≡ reading w
read_found w p q v candidate t =
    only_reading w (record { refusal = 0; read = v })
    (read_as refl (record { right = tested v candidate.short t; close = candidate.close }))

-- and is beyond repair where no pair of places has one
pub none_found : (w : ℕ) → ((p : ℕ) → p < 10 → (q : ℕ) → q < 10 → p < q → Missed w p q) → record { refusal = 14; read = 0 } ≡ reading w
none_found w all = sym (refused_when_none w none)
  where
    none : (v : ℕ) → Near w v → ⊥
    none v near = go (two_places (λ k. symbol k (bit_xor w v)) (subst (λ (d : ℕ). d ≤ 2) (apart_count 10 w v) near.close))
      where
        go : (p : ℕ) × (q : ℕ) × (p < q) × (q < 10) × Agree w v p q → ⊥
        go (p, q, pq, hq, agree) = all p (omega arith) q hq pq v near.right agree

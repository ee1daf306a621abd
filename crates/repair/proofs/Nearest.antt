-- At most one rightly written word differs from a word in two symbols or fewer, and how a word is read is determined.
-- Assumes nothing.
use mathlib.Core.Path.{◌≡◌, refl, sym, ap, ap₂, ◌∙◌, subst, fun_ext}
use Prim.Native.Nat.{ℕ, zero, suc, ◌+◌, ◌^◌, ◌<◌, ◌≤◌}
use native.Mathlib.Omega.{arith}
use mathlib.Core.Bool.{false}
use lib.Dec.{leb, eqb}
use lib.Bits.{bit_xor, xor_self}
use borrow.Author.Tests.{leb-true, leb-false, eqb-true, eqb-false}
use Rattle.octets.proofs.Tests.{test}
use Rattle.octets.proofs.Choices.{apart}
use Rattle.repair.specs.Values.{value}
use Rattle.repair.specs.Code.{Answer, symbol, written, Written, distance, reading_below, reading, Near, Reads, read_as, beyond}
use Rattle.octets.proofs.Sums.{xor_apart, crosswise}
use Rattle.repair.proofs.Values.{value_xor, count, count_xor, light}
use Rattle.repair.proofs.Words.{symbol_lt, symbol_xor, same_symbols, apart_count}
use Rattle.repair.proofs.Roots.{checks_lt, written_roots}

pub written_lt : (six : ℕ) → six < 16 ^ 6 → written six < 16 ^ 10
unfolding written
written_lt six h = omega (arith, checks_lt six)

pub right_lt : (v : ℕ) → Written v → v < 16 ^ 10
right_lt v w = subst (λ (x : ℕ). x < 16 ^ 10) (sym w.is) (written_lt w.six w.short)

-- THE LEAST DISTANCE IS FIVE: rightly written words that differ in four symbols or fewer are the same
pub far_apart : (u v : ℕ) → Written u → Written v → distance 10 u v ≤ 4 → u ≡ v
far_apart u v wu wv near =
    same_symbols 10 u v (right_lt u wu) (right_lt v wv)
    (λ k l. xor_apart (symbol k u) (symbol k v)
    (sym (symbol_xor k u v)
    ∙ light 10 (omega arith) 4 (λ k. symbol k (bit_xor u v)) (λ k. symbol_lt k (bit_xor u v)) (subst (λ (x : ℕ). x ≤ 4) (apart_count 10 u v) near) roots k l))
  where
    roots : (j : ℕ) → j < 4 → value 10 (6 + j) (λ k. symbol k (bit_xor u v)) ≡ 0
    roots j h =
        ap (value 10 (6 + j)) (fun_ext (λ k. symbol_xor k u v)) ∙ value_xor 10 (6 + j) (λ k. symbol k u) (λ k. symbol k v)
        ∙ ap₂ bit_xor (written_roots u wu j h) (written_roots v wv j h)

-- the way over a third word is no shorter
pub triangle : (n w u v : ℕ) → distance n u v ≤ distance n w u + distance n w v
triangle n w u v =
    let e : count n (λ k. symbol k (bit_xor u v)) ≡ count n (λ k. bit_xor (symbol k (bit_xor w u)) (symbol k (bit_xor w v))) =
    ap (count n) (fun_ext (λ k. ap (symbol k) (sym (crosswise w u w v ∙ ap (λ (x : ℕ). bit_xor x (bit_xor u v)) (xor_self w))) ∙ symbol_xor k (bit_xor w u) (bit_xor w v))) in
    omega (arith, apart_count n u v, apart_count n w u, apart_count n w v, count_xor n (λ k. symbol k (bit_xor w u)) (λ k. symbol k (bit_xor w v)))

pub unique : (w u v : ℕ) → Near w u → Near w v → u ≡ v
unique w u v a b =
    far_apart u v a.right b.right (omega (arith, triangle 10 w u v, a.close, b.close))

-- a word is read in one way
pub determined : (w : ℕ) (r s : Answer) → Reads w r → Reads w s → r ≡ s
determined w r s (read_as p a) (read_as q b) =
    λ i. record { refusal = (p ∙ sym q) i; read = unique w r.read s.read a b i }
determined w r s (read_as p a) (beyond q z none) = absurd (none r.read a)
determined w r s (beyond p z none) (read_as q b) = absurd (none s.read b)
determined w r s (beyond p y none) (beyond q z none') = λ i. record { refusal = (p ∙ sym q) i; read = (y ∙ sym z) i }

-- ---- THE RULE OF READING

below : (w n : ℕ) → n ≤ 16 ^ 6 → ((m : ℕ) → n ≤ m → m < 16 ^ 6 → distance 10 w (written m) ≤ 2 → ⊥) → Reads w (reading_below n w)
unfolding reading_below
below w zero h none =
    beyond refl refl
    (λ v near. none near.right.six (omega arith) near.right.short (subst (λ (x : ℕ). distance 10 w x ≤ 2) near.right.is near.close))
below w (suc n) h none =
    test (leb (distance 10 w (written n)) 2)
    (λ t. rw t (read_as refl (record { right = record { six = n; short = h; is = refl }; close = leb-true (distance 10 w (written n)) 2 t })))
    (λ t. rw t (below w n (omega arith) (λ m l k d. others t m l k d)))
  where
    others : leb (distance 10 w (written n)) 2 ≡ false → (m : ℕ) → n ≤ m → m < 16 ^ 6 → distance 10 w (written m) ≤ 2 → ⊥
    others t m l k d =
        test (eqb m n)
        (λ e. let same : m ≡ n = eqb-true m n e in
        let far : 2 < distance 10 w (written n) = leb-false (distance 10 w (written n)) 2 t in
        let near : distance 10 w (written n) ≤ 2 = subst (λ (x : ℕ). distance 10 w (written x) ≤ 2) same d in
        omega arith)
        (λ e. let other : m ≡ n → ⊥ = eqb-false m n e in
        none m (omega arith) k d)

-- a word is refused exactly when no rightly written one differs from it in two symbols or fewer, and is otherwise read as that one
pub reading_rule : (w : ℕ) → Reads w (reading w)
unfolding reading
reading_rule w = below w (16 ^ 6) (omega arith) (λ m l k d. omega arith)

-- and there is no other way to read it so
pub only_reading : (w : ℕ) (r : Answer) → Reads w r → r ≡ reading w
only_reading w r reads = determined w r (reading w) reads (reading_rule w)

-- REPAIR: a word sent, with at most two of its ten symbols changed, is read as it was sent
pub read_as_sent : (six w : ℕ) → six < 16 ^ 6 → distance 10 w (written six) ≤ 2 → reading w ≡ record { refusal = 0; read = written six }
read_as_sent six w h close =
    sym (only_reading w (record { refusal = 0; read = written six })
    (read_as refl (record { right = record { six = six; short = h; is = refl }; close = close })))

-- THE REFUSAL: 14 exactly when there is no rightly written word so near
pub refused_when_none : (w : ℕ) → ((v : ℕ) → Near w v → ⊥) → reading w ≡ record { refusal = 14; read = 0 }
refused_when_none w none = sym (only_reading w (record { refusal = 14; read = 0 }) (beyond refl refl none))

pub none_when_refused : (w : ℕ) → (reading w).refusal ≡ 14 → (v : ℕ) → Near w v → ⊥
none_when_refused w e v near = go (reading_rule w)
  where
    go : Reads w (reading w) → ⊥
    go (read_as p a) = apart (omega arith)
    go (beyond p z none) = none v near

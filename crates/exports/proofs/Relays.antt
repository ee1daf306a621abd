-- Relay tables in numbers two by two.
-- Assumes nothing.
use Rattle.std.proofs.Common.{◌≡◌, ◌≢◌, ℕ, zero, suc, ◌+◌, ◌*◌, ◌/◌, ◌≤◌, ◌<◌, List, [], ◌∷◌, ◌++◌, ltb, eqb, length, drop, get_or, refl, sym, ap, ◌∙◌, arith}
use Rattle.std.proofs.lemmas.Bool.Decides.{nat_tests}
use Rattle.std.proofs.lemmas.List.{same_lists}
use Rattle.std.specs.Array.{IsFromFnResultFrom, IsFromFnResult}
use Rattle.std.specs.List.{list_any}
use Rattle.std.specs.Simd.{first_chunks}
use denote.Param.Members.{Mut, Called}
use lib.Seq.{get_or-drop}
use borrow.Author.Tests.{eqb-true, eqb-false}
use Rattle.octets.specs.Basics.{All}
use Rattle.octets.proofs.Tests.{test}
use Rattle.relay.specs.Table.{no_entry}
use Rattle.relay.specs.declared.Entry.{Entry}
use Rattle.exports.specs.Relaying.{entry_of, entries_of, entry_numbers, wide}

-- ---- a list by `from_fn`

-- what a call that leaves its closure as it was makes of each number from i on
made_at : {F B : Type 0} (g : Mut F (ℕ × Unit {0}) B) (f : F) (h : ℕ → B) → ((i : ℕ) (y : B) (q : F) → Called g f (i, tt) y q → (q ≡ f) × (y ≡ h i))
    → (ys : List B) (i n : ℕ) → IsFromFnResultFrom g f ys i n → (k : ℕ) (d : B) → i ≤ k → k < i + n → get_or ys k d ≡ h k
made_at g f h calls ys i zero made k d low high = absurd (omega arith)
made_at g f h calls ys i (suc n) made k d low high =
    let call = calls i made.1 made.0 made.3 in
    test (eqb i k)
    (λ t. rw (← eqb-true i k t) (made.2.1 d ∙ call.1))
    (λ t.
    let past : i ≢ k = eqb-false i k t in
    made_at g f h calls ys (i + 1) n (rw call.0 at made.4) k d (omega arith) (omega arith))

-- so what `from_fn` made is any list of that length with these elements
pub from_fn_is : {F B : Type 0} {g : Mut F (ℕ × Unit {0}) B} {f : F} {ys : List B} {n : ℕ} → IsFromFnResult g f ys n
    → (h : ℕ → B) → ((i : ℕ) (y : B) (q : F) → Called g f (i, tt) y q → (q ≡ f) × (y ≡ h i))
    → (zs : List B) → length zs ≡ n → ((i : ℕ) (d : B) → i < n → get_or zs i d ≡ h i) → ys ≡ zs
from_fn_is {g = g} {f = f} {ys = ys} {n = n} made h calls zs long at =
    same_lists ys zs (made.long ∙ sym long)
    (λ k d l.
    let low : k < n = omega (arith, made.long) in
    made_at g f h calls ys 0 n made.each k d (omega arith) (omega arith) ∙ sym (at k d low))

-- ---- entries of numbers

pub entries_long : (k : ℕ) (ns : List ℕ) → length (entries_of k ns) ≡ k
unfolding entries_of
entries_long zero ns = refl
entries_long (suc k) ns = ap suc (entries_long k (drop 2 ns))

pub entries_at : (k : ℕ) (ns : List ℕ) (i : ℕ) (d : Entry) → i < k → get_or (entries_of k ns) i d ≡ entry_of (get_or ns (2 * i) 0) (get_or ns (2 * i + 1) 0)
unfolding entries_of
entries_at zero ns i d h = absurd (omega arith)
entries_at (suc k) ns zero d h = refl
entries_at (suc k) ns (suc i) d h =
    let low : 2 + 2 * i ≡ 2 * suc i = omega arith in
    let high : 2 + (2 * i + 1) ≡ 2 * suc i + 1 = omega arith in
    entries_at k (drop 2 ns) i d (omega arith) ∙ rw (get_or-drop 2 ns (2 * i) 0, get_or-drop 2 ns (2 * i + 1) 0, low, high)

-- ---- numbers of entries

pub numbers_long : (es : List Entry) → length (entry_numbers es) ≡ 2 * length es
unfolding entry_numbers
numbers_long [] = refl
numbers_long (e ∷ es) = omega (arith, numbers_long es)

-- the two numbers of an entry, behind the table's count
pub numbers_at : (n : ℕ) (es : List Entry) (i : ℕ) → i < length es
    → (get_or (n ∷ entry_numbers es) (2 * i + 1) 0 ≡ (get_or es i no_entry).apid) × (get_or (n ∷ entry_numbers es) (2 * i + 2) 0 ≡ (get_or es i no_entry).destination)
unfolding entry_numbers
numbers_at n [] i h = absurd (omega arith)
numbers_at n (e ∷ es) zero h = (refl, refl)
numbers_at n (e ∷ es) (suc i) h =
    let low : 2 * suc i + 1 ≡ suc (suc (2 * i + 1)) = omega arith in
    let high : 2 * suc i + 2 ≡ suc (suc (2 * i + 2)) = omega arith in
    rw (low, high) (numbers_at e.destination es i (omega arith))

-- what is stated by the numbers of entries that fit, with whatever stands behind them
pub entries_again : (es : List Entry) (rest : List ℕ) → All (λ e. (e.apid ≤ 65535) × (e.destination ≤ 255)) es
    → entries_of (length es) (entry_numbers es ++ rest) ≡ es
unfolding entries_of entry_numbers entry_of
entries_again [] rest fit = refl
entries_again (e ∷ es) rest fit = grind (arith, nat_tests, entries_again es rest fit.1)

-- ---- destinations that are none

pub wide_by_pairs : (ns : List ℕ) → list_any (λ (pair : List ℕ). ltb 255 (get_or pair 1 0)) (first_chunks 2 (length ns / 2) ns) ≡ wide ns
unfolding wide
wide_by_pairs [] = refl
wide_by_pairs (apid ∷ []) = refl
wide_by_pairs (apid ∷ destination ∷ ns) =
    let more : length (apid ∷ destination ∷ ns) / 2 ≡ suc (length ns / 2) = omega arith in
    rw more (grind (arith, nat_tests, wide_by_pairs ns))

-- A number in a run of octets is the number in its first part, moved up, and the number in the rest.
-- Assumes nothing.
use mathlib.Core.Path.{◌≡◌, refl, sym, ap, ◌∙◌}
use mathlib.Core.List.{List, [], ◌∷◌, ◌++◌}
use Prim.Native.Nat.{ℕ, zero, suc, ◌+◌, ◌*◌, ◌/◌, ◌%◌, ◌^◌, ◌≤◌, ◌<◌}
use native.Mathlib.Nat.{add-mul, mul_assoc, mul-one, zero-add, add-zero, mul-suc, add_assoc, add_comm, mod-one, mod-eq_of_lt, mod-le, one-le-pow, zero-lt-suc, pow-zero, pow-succ'}
use native.Mathlib.Omega.{arith}
use native.Mathlib.Numerals.{add-one}
use Rattle.std.proofs.Common.{lt_of_lt_of_le, lt_of_le_of_lt, pow_mono}
use Rattle.std.proofs.lemmas.Nat.{mod-mul-add, mod_below}
use lib.ListN.{length, take, drop, get_or, length-drop, get_or-eq_default}
use lib.Seq.{take-add, drop-drop, take-suc, length-take-le, drop-cons}
use lib.Bits.{bit_or, or_shifted}
use lib.Pow.{pow-add}
use lib.Arith.{digits_lt, digits_div, digits_mod, mod-mul}
use borrow.Author.Tests.{le-leb, lt-leb}
use Rattle.octets.proofs.Choices.{split}
use Rattle.octets.proofs.Fronts.{all_take, all_drop, octet_lt}
use Rattle.octets.specs.Basics.{AllOctets, number, number_from, number_at, octets}

from-append : (n : ℕ) (a b : List ℕ) → number_from n (a ++ b) ≡ number_from (number_from n a) b
unfolding number_from
from-append n [] b = refl
from-append n (o ∷ a) b = from-append (n * 256 + o) a b

-- eight bits to an octet
bits_more : (n : ℕ) → 2 ^ (8 * suc n) ≡ 256 * 2 ^ (8 * n)
bits_more n = ap (λ (k : ℕ). 2 ^ k) (mul-suc 8 n ∙ add_comm (8 * n) 8) ∙ pow-add 2 8 (8 * n)

from_split : (n : ℕ) (a : List ℕ) → number_from n a ≡ n * 2 ^ (8 * length a) + number a
unfolding number_from number
from_split n [] = omega arith
from_split n (o ∷ a) =
    let p : ℕ = 2 ^ (8 * length a) in
    from_split (n * 256 + o) a
    ∙ ap (λ (k : ℕ). k + number a) (add-mul (n * 256) o p ∙ ap (λ (k : ℕ). k + o * p) (mul_assoc n 256 p))
    ∙ add_assoc (n * (256 * p)) (o * p) (number a)
    ∙ sym (ap (λ (k : ℕ). n * k + number_from (0 + o) a) (bits_more (length a))
    ∙ ap (λ (k : ℕ). n * (256 * p) + k) (ap (λ (k : ℕ). number_from k a) (zero-add o) ∙ from_split o a))

number_lt : (a : List ℕ) → AllOctets a → number a < 2 ^ (8 * length a)
unfolding number number_from
number_lt [] h = omega arith
number_lt (o ∷ a) h =
    rw (bits_more, zero-add, from_split o a) (digits_lt h.0 (number_lt a h.1))

-- the octets from `at` make less than their bits hold
pub run_lt : (s : List ℕ) (at n : ℕ) → AllOctets s → at + n ≤ length s → number (take n (drop at s)) < 2 ^ (8 * n)
run_lt s at n h k =
    let e : length (take n (drop at s)) ≡ n = length-take-le n (drop at s) (rw length-drop (omega arith)) in
    rw e at (number_lt (take n (drop at s)) (all_take n (drop at s) (all_drop at s h)))

-- m octets and the k octets after them
pub run_join : (s : List ℕ) (at m k : ℕ) → at + (m + k) ≤ length s
    → number (take (m + k) (drop at s)) ≡ number (take m (drop at s)) * 2 ^ (8 * k) + number (take k (drop (at + m) s))
unfolding number
run_join s at m k h =
    let e : length (take k (drop (at + m) s)) ≡ k = length-take-le k (drop (at + m) s) (rw length-drop (omega arith)) in
    rw (take-add m k (drop at s), drop-drop m at s, from-append, from_split (number_from 0 (take m (drop at s))) (take k (drop (at + m) s)), e)

-- a word of 64 bits with an octet more: what its top octet was is gone
word_more : (n o : ℕ) → o < 256 → (n * 256 + o) % 2 ^ 64 ≡ n % 2 ^ 56 * 256 + o
word_more n o h =
    mod-mul (n * 256 + o) {m = 2 ^ 56} {c = 256} (omega arith) (omega arith)
    ∙ ap (λ (k : ℕ). k % 2 ^ 56 * 256 + (n * 256 + o) % 256) (digits_div n h)
    ∙ ap (λ (k : ℕ). n % 2 ^ 56 * 256 + k) (digits_mod n h)

word_low : (n : ℕ) → n % 2 ^ 64 % 2 ^ 56 ≡ n % 2 ^ 56
word_low n =
    ap (λ (k : ℕ). k % 2 ^ 56) (mod-mul n {m = 256} {c = 2 ^ 56} (omega arith) (omega arith))
    ∙ mod-mul-add (n / 2 ^ 56 % 256) (2 ^ 56) (n % 2 ^ 56) (mod_below n (2 ^ 56) (omega arith))

octet_more : (n o : ℕ) → o < 256 → bit_or (n % 2 ^ 64 * 256 % 2 ^ 64) o ≡ (n * 256 + o) % 2 ^ 64
octet_more n o h =
    let up : n % 2 ^ 64 * 256 % 2 ^ 64 ≡ n % 2 ^ 56 * 256 =
    ap (λ (k : ℕ). k % 2 ^ 64) (sym (add-zero (n % 2 ^ 64 * 256))) ∙ word_more (n % 2 ^ 64) 0 (omega arith)
    ∙ add-zero (n % 2 ^ 64 % 2 ^ 56 * 256) ∙ ap (λ (k : ℕ). k * 256) (word_low n) in
    ap (λ (k : ℕ). bit_or k o) up ∙ or_shifted (n % 2 ^ 56) 8 o h ∙ sym (word_more n o h)

number_more : (os : List ℕ) (i : ℕ) → i < length os → number (take (i + 1) os) ≡ number (take i os) * 256 + get_or os i 0
unfolding number number_from
number_more os i h = rw (add-one, take-suc os i 0 h) (from-append 0 (take i os) (get_or os i 0 ∷ []))

-- a turn that joins the octet at i
pub octet_turn : (os : List ℕ) (i word : ℕ) → AllOctets os → i < length os → word ≡ number (take i os) % 2 ^ 64
    → bit_or (word * 256 % 2 ^ 64) (get_or os i 0) ≡ number (take (i + 1) os) % 2 ^ 64
octet_turn os i word h l e =
    ap (λ (k : ℕ). bit_or (k * 256 % 2 ^ 64) (get_or os i 0)) e
    ∙ octet_more (number (take i os)) (get_or os i 0) (octet_lt os h i)
    ∙ ap (λ (k : ℕ). k % 2 ^ 64) (sym (number_more os i l))

pub number_within : (n at : ℕ) (s : List ℕ) → at + n ≤ length s → number_at n at s ≡ number (take n (drop at s))
unfolding number_at
number_within n at s h = simp (le-leb _ _ h)

pub number_past : (n at : ℕ) (s : List ℕ) → length s < at + n → number_at n at s ≡ 0
unfolding number_at
number_past n at s h = simp (lt-leb _ _ h)

-- n octets make less than their bits hold, and so does what a word has of it
pub number_at_short : (n at : ℕ) (s : List ℕ) → AllOctets s → number_at n at s % 2 ^ 64 < 2 ^ (8 * n)
number_at_short n at s o =
    lt_of_le_of_lt (mod-le (number_at n at s) (2 ^ 64))
    (split (at + n) (length s) (λ i. rw (number_within n at s i) (run_lt s at n o i)) (λ p. rw (number_past n at s p) (one-le-pow (8 * n) 2 (omega arith))))

-- eight octets at most make a number of 64 bits
pub number_at_fits : (n at : ℕ) (s : List ℕ) → AllOctets s → n ≤ 8 → number_at n at s % 2 ^ 64 ≡ number_at n at s
number_at_fits n at s o h =
    split (at + n) (length s)
    (λ i. mod-eq_of_lt (rw (number_within n at s i) (lt_of_lt_of_le (run_lt s at n o i) (pow_mono {i = 8 * n} {j = 64} (omega arith)))))
    (λ p. rw (number_past n at s p) refl)

pub one_octet : (s : List ℕ) (at : ℕ) → at < length s → number (take 1 (drop at s)) ≡ get_or s at 0
unfolding number number_from
one_octet s at h = rw (drop-cons s at 0 h) (zero-add (get_or s at 0))

-- ---- a number written as octets

pow_256_pos : (k : ℕ) → zero < 256 ^ k
pow_256_pos k = one-le-pow k 256 (zero-lt-suc 255)

from_octets : (k n m : ℕ) → number_from n (octets k m) ≡ n * 256 ^ k + m % 256 ^ k
unfolding number_from octets
from_octets zero n m = sym (rw (pow-zero, mod-one m, mul-one n, add-zero n))
from_octets (suc k) n m =
    from_octets k (n * 256 + m / 256 ^ k % 256) m ∙ regroup
  where
    regroup : (n * 256 + m / 256 ^ k % 256) * 256 ^ k + m % 256 ^ k ≡ n * 256 ^ suc k + m % 256 ^ suc k
    regroup = rw (pow-succ' 256 k, mod-mul m {m = 256} {c = 256 ^ k} (zero-lt-suc 255) (pow_256_pos k)) (omega arith)

-- a number that fits its octets is read back
pub number_octets : (k n : ℕ) → n < 256 ^ k → number (octets k n) ≡ n
unfolding number
number_octets k n h = from_octets k 0 n ∙ omega (arith, mod-eq_of_lt h)

octet_bits : (k : ℕ) → 256 ^ k ≡ 2 ^ (8 * k)
octet_bits zero = refl
octet_bits (suc k) = pow-succ' 256 k ∙ ap (λ (n : ℕ). 256 * n) (octet_bits k) ∙ sym (bits_more k)

from_written : (os : List ℕ) → AllOctets os → (n : ℕ) → octets (length os) (number_from n os) ≡ os
unfolding octets number_from
from_written [] h n = refl
from_written (o ∷ os) h n =
    let k : ℕ = length os in
    let below : number os < 256 ^ k = rw (octet_bits k) (number_lt os h.1) in
    let parts : number_from (n * 256 + o) os ≡ (n * 256 + o) * 256 ^ k + number os =
    rw (octet_bits k) (from_split (n * 256 + o) os) in
    let top : number_from (n * 256 + o) os / 256 ^ k % 256 ≡ o =
    ap (λ (m : ℕ). m / 256 ^ k % 256) parts ∙ ap (λ (m : ℕ). m % 256) (digits_div (n * 256 + o) below) ∙ digits_mod n h.0 in
    cc (top, from_written os h.1 (n * 256 + o))

-- octets read as a number are written back
pub octets_number : (os : List ℕ) → AllOctets os → octets (length os) (number os) ≡ os
unfolding number
octets_number os h = from_written os h 0

-- the octet at a place, also past the end
pub octet_at : (s : List ℕ) (at : ℕ) → number_at 1 at s ≡ get_or s at 0
octet_at s at =
    split (at + 1) (length s) (λ h. number_within 1 at s h ∙ one_octet s at (omega arith))
    (λ h. number_past 1 at s h ∙ sym (get_or-eq_default s 0 (omega arith)))

-- the same of a run of octets
pub octets_again : (s : List ℕ) (at n : ℕ) → AllOctets s → at + n ≤ length s → octets n (number (take n (drop at s))) ≡ take n (drop at s)
octets_again s at n o h =
    let run : List ℕ = take n (drop at s) in
    let long : length run ≡ n = length-take-le n (drop at s) (rw length-drop (omega arith)) in
    ap (λ (k : ℕ). octets k (number run)) (sym long) ∙ octets_number run (all_take n (drop at s) (all_drop at s o))

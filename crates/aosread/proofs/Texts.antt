-- The digits of a number.
-- Assumes nothing.
use Rattle.std.proofs.Common.{◌≡◌, ◌+◌, ◌-◌, ◌*◌, ◌/◌, ◌%◌, ◌^◌, ◌<◌, ◌≤◌, ◌∙◌, ◌++◌, ◌∷◌, [], ℕ, Bool, true, false, List, zero, suc, length, take, drop, set, max, refl, sym, ap, subst, arith, append_assoc, append-nil, mod-eq_of_lt, pow-suc}
use Rattle.std.specs.Prelude.{slice_range}
use Rattle.std.proofs.Math.Seq.{take-add}
use Rattle.std.proofs.lemmas.List.{drop-set}
use mathlib.Core.Path.{subst⁻¹}
use lib.Dec.{ltb}
use Rattle.octets.specs.Basics.{pick}
use borrow.Author.Tests.{lt-ltb, le-ltb}
use Rattle.std.specs.Fmt.{decimal as printed}
use Rattle.std.proofs.lemmas.Fmt.{decimal_from_appends, length-decimal-le}
use Rattle.aosread.specs.Lines.{digits, decimal}

digits_only : (k n : ℕ) → n < 10 → digits (suc k) n ≡ (48 + n) ∷ []
unfolding digits
digits_only k n h = rw (lt-ltb n 10 h, mod-eq_of_lt {n = n} {m = 10} h) refl

digits_more : (k n : ℕ) → 10 ≤ n → digits (suc k) n ≡ digits k (n / 10) ++ ((48 + n % 10) ∷ [])
unfolding digits
digits_more k n h = rw (le-ltb n 10 h) refl

-- with room for all they are those that std prints
as_printed : (k n : ℕ) → n < 10 ^ suc k → n < 2 ^ 64 → digits (suc k) n ≡ printed n
as_printed k n h fits =
    decimal_from_appends digits (record { one = digits_only; more = digits_more }) (suc k) n fits (length-decimal-le (suc k) n (omega arith) h fits)

-- so many at most
pub decimal_most : (n : ℕ) → n < 2 ^ 64 → length (decimal n) ≤ 20
decimal_most n h = omega (arith, ap length (as_printed 19 n (omega arith) h), length-decimal-le 20 n (omega arith) (omega arith) h)

none_before : (b : Bool) → pick {A = List ℕ} b [] [] ≡ []
none_before true = refl
none_before false = refl

pow_some : (k : ℕ) → 0 < 10 ^ k
pow_some zero = omega arith
pow_some (suc k) = omega (arith, pow-suc 10 k, pow_some k)

least_above : (k n : ℕ) → 1 < suc k → 10 ^ k ≤ max n 1 → 10 ^ (suc k - 1) ≤ n
least_above zero n h low = absurd (omega arith)
least_above (suc k) n h low =
    let back : suc (suc k) - 1 ≡ suc k = omega arith in
    subst⁻¹ (λ (j : ℕ). 10 ^ j ≤ n) back (omega (arith, pow-suc 10 k, pow_some k))

least_tenth : (k rest : ℕ) → 1 < k → 10 ^ (suc k - 1) ≤ rest → 10 ^ (k - 1) ≤ rest / 10
least_tenth zero rest h low = absurd (omega arith)
least_tenth (suc k) rest h low =
    let back : suc k - 1 ≡ k = omega arith in
    let whole : suc (suc k) - 1 ≡ suc k = omega arith in
    let high : 10 ^ suc k ≤ rest = subst (λ (j : ℕ). 10 ^ j ≤ rest) whole low in
    subst⁻¹ (λ (j : ℕ). 10 ^ j ≤ rest / 10) back (omega (arith, high, pow-suc 10 k))

least_now : (k rest : ℕ) → 0 < k → (1 < suc k → 10 ^ (suc k - 1) ≤ rest) → 10 ^ k ≤ rest
least_now k rest h low =
    let whole : suc k - 1 ≡ k = omega arith in subst (λ (j : ℕ). 10 ^ j ≤ rest) whole (low (omega arith))

-- a number is not zero before its last digit
last_digit : (k n : ℕ) → (0 < k → 10 ^ k ≤ n) → digits (suc k) n ≡ digits k (n / 10) ++ ((48 + n % 10) ∷ [])
unfolding digits
last_digit zero n h = ap (λ (l : List ℕ). l ++ ((48 + n % 10) ∷ [])) (none_before (ltb n 10))
last_digit (suc k) n h = digits_more (suc k) n (omega (arith, h (omega arith), pow-suc 10 k, pow_some k))

-- while they are written from the last to the first: so many of the rest's come before those that stand there
pub record Writing (n left rest : ℕ) (behind : List ℕ) : Type 0 where
  pub fits : rest < 10 ^ left
  pub least : 1 < left → 10 ^ (left - 1) ≤ rest
  pub text : digits left rest ++ behind ≡ decimal n

-- before the first is written
pub none_written : (n k : ℕ) → n < 2 ^ 64 → 10 ^ k ≤ max n 1 → max n 1 < 10 * 10 ^ k → Writing n (k + 1) n []
none_written n k h low high =
    let room : n < 10 ^ suc k = omega (arith, pow-suc 10 k) in
    let one : suc k ≡ k + 1 = omega arith in
    subst (λ (j : ℕ). Writing n j n []) one record {
      fits = room;
      least = λ more. least_above k n more low;
      text = append-nil (digits (suc k) n) ∙ as_printed k n room h ∙ sym (as_printed 19 n (omega arith) h);
    }

-- the rest's last digit is written
pub writing_on : {n left rest : ℕ} {behind : List ℕ} → 0 < left → Writing n left rest behind
    → Writing n (left - 1) (rest / 10) ((48 + rest % 10) ∷ behind)
writing_on {left = zero} h w = absurd (omega arith)
writing_on {n} {left = suc k} {rest} {behind} h w =
    let before : suc k - 1 ≡ k = omega arith in
    let digit : ℕ = 48 + rest % 10 in
    subst⁻¹ (λ (j : ℕ). Writing n j (rest / 10) (digit ∷ behind)) before record {
      fits = omega (arith, w.fits, pow-suc 10 k);
      least = λ more. least_tenth k rest more (w.least (omega arith));
      text = sym (append_assoc (digits k (rest / 10)) (digit ∷ []) behind)
          ∙ ap (λ (l : List ℕ). l ++ behind) (sym (last_digit k rest (λ some. least_now k rest some w.least))) ∙ w.text;
    }

pub written : {n rest : ℕ} {behind : List ℕ} → Writing n 0 rest behind → behind ≡ decimal n
unfolding digits
written w = w.text

-- a digit written before others, and a text whose end is written
pub range_set : (buf : List ℕ) (at end octet : ℕ) → at < length buf → at < end
    → slice_range (set buf at octet) at end ≡ octet ∷ slice_range buf (at + 1) end
range_set buf at end octet h k =
    let more : end - at ≡ suc (end - (at + 1)) = omega arith in
    ap (λ (n : ℕ). take n (drop at (set buf at octet))) more ∙ ap (take (suc (end - (at + 1)))) (drop-set buf at octet h)

pub ends : (buf : List ℕ) (from end : ℕ) → from ≤ end → take end buf ≡ take from buf ++ slice_range buf from end
ends buf from end h =
    let all : end ≡ from + (end - from) = omega arith in ap (λ (n : ℕ). take n buf) all ∙ take-add from (end - from) buf

pub range_none : (buf : List ℕ) (end : ℕ) → slice_range buf end end ≡ []
range_none buf end =
    let none : end - end ≡ 0 = omega arith in ap (λ (n : ℕ). take n (drop end buf)) none

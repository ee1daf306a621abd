-- The trailer: a frame is right when nothing remains of the whole of it, and exactly then its trailer is the one that is written.
-- Assumes nothing.
use mathlib.Core.Path.{◌≡◌, refl, sym, ap, ap₂, ◌∙◌}
use mathlib.Core.Bool.{true, false}
use mathlib.Core.List.{List, [], ◌∷◌, ◌++◌, append-nil}
use Prim.Native.Nat.{ℕ, ◌+◌, ◌-◌, ◌*◌, ◌^◌, ◌≤◌, ◌<◌}
use native.Mathlib.Nat.{mod-eq_of_lt, mul-one, add-mul, mul_assoc, add_assoc}
use native.Mathlib.Omega.{arith}
use lib.Dec.{eqb}
use lib.ListN.{length, take, drop, length-append}
use lib.Seq.{take_at, drop_at, take_all, take-add}
use lib.Pow.{pow-add}
use lib.Bits.{bit_xor, xor_lt, xor_self}
use borrow.Author.Tests.{eqb-true, eq-eqb, ne_eqb}
use Rattle.octets.specs.Basics.{AllOctets, octets, number, number_from, number_at}
use Rattle.octets.proofs.Choices.{apart, eqb_iff, split}
use Rattle.octets.proofs.Numbers.{number_within, number_past, number_octets, run_lt, octets_again}
use Rattle.octets.proofs.Written.{length-octets, length_run, laid_within, laid_past, over-take}
use Rattle.octets.proofs.Fronts.{all_take, all_drop}
use Rattle.octets.proofs.Sums.{xor_apart}
use Rattle.trailer.specs.Division.{preset, divided, bits, all_bits, remainder}
use Rattle.trailer.specs.Trailer.{trailer, right, with_trailer}
use Rattle.trailer.proofs.Moves.{moves, moves_none, moves_nothing, value, value_bits, length-bits, taken, taken_bits}
use Rattle.trailer.proofs.Remainders.{all_bits_bits, remainder-append, remainder_lt, remainder_none, remainder_one}

-- ---- two octets more

value_append : (xs ys : List ℕ) → value (xs ++ ys) ≡ value xs * 2 ^ length ys + value ys
unfolding value
value_append [] ys = omega arith
value_append (x ∷ xs) ys =
    ap₂ (λ (p v : ℕ). x * p + v) (ap (λ (n : ℕ). 2 ^ n) (length-append xs ys) ∙ pow-add 2 (length xs) (length ys)) (value_append xs ys)
    ∙ sym (ap (λ (z : ℕ). z + value ys) (add-mul (x * 2 ^ length xs) (value xs) (2 ^ length ys)
    ∙ ap (λ (z : ℕ). z + value xs * 2 ^ length ys) (mul_assoc x (2 ^ length xs) (2 ^ length ys)))
    ∙ add_assoc (x * (2 ^ length xs * 2 ^ length ys)) (value xs * 2 ^ length ys) (value ys))

two_bits : (a b : ℕ) → all_bits (a ∷ b ∷ []) ≡ bits 8 a ++ bits 8 b
unfolding all_bits
two_bits a b = ap (λ (l : List ℕ). bits 8 a ++ l) (append-nil (bits 8 b))

two_value : (a b : ℕ) → a < 256 → b < 256 → value (bits 8 a ++ bits 8 b) ≡ number (a ∷ b ∷ [])
unfolding number number_from bits
two_value a b ha hb =
    let e : value (bits 8 a) ≡ a = value_bits 8 a ∙ mod-eq_of_lt ha in
    let f : value (bits 8 b) ≡ b = value_bits 8 b ∙ mod-eq_of_lt hb in
    value_append (bits 8 a) (bits 8 b) ∙ ap₂ (λ (x y : ℕ). x * 256 + y) e f ∙ omega arith

-- the register after two octets: their number is added to it, and it is moved sixteen times
two_octets : (r : ℕ) (ys : List ℕ) → r < 2 ^ 16 → AllOctets ys → length ys ≡ 2 → divided r (all_bits ys) ≡ moves 16 (bit_xor r (number ys))
two_octets r [] hr small two = absurd (omega arith)
two_octets r (a ∷ []) hr small two = absurd (omega arith)
two_octets r (a ∷ b ∷ []) hr small two =
    let e : all_bits (a ∷ b ∷ []) ≡ bits 8 a ++ bits 8 b = two_bits a b in
    let n : length (all_bits (a ∷ b ∷ [])) ≡ 16 =
    ap length e ∙ length-append (bits 8 a) (bits 8 b) ∙ ap₂ (λ (x y : ℕ). x + y) (length-bits 8 a) (length-bits 8 b) in
    let v : value (all_bits (a ∷ b ∷ [])) ≡ number (a ∷ b ∷ []) = ap value e ∙ two_value a b small.0 small.1.0 in
    taken r (all_bits (a ∷ b ∷ [])) hr (all_bits_bits (a ∷ b ∷ [])) (omega arith)
    ∙ ap₂ (λ (m x : ℕ). moves m (bit_xor r (x * 2 ^ (16 - m)))) n v
    ∙ ap (λ (x : ℕ). moves 16 (bit_xor r x)) (mul-one (number (a ∷ b ∷ [])))
two_octets r (a ∷ b ∷ c ∷ ys) hr small two = absurd (omega arith)

-- ---- what is right

right_short : (f : List ℕ) → length f < 2 → right f ≡ false
unfolding right
right_short f h =
    let none : length f - 2 ≡ 0 = omega arith in
    ap₂ eqb (number_past 2 (length f - 2) f (omega arith)) (ap (λ (n : ℕ). remainder (take n f)) none ∙ remainder_none)

some_short : (f : List ℕ) → AllOctets f → length f < 2 → remainder f ≡ 0 → ⊥
some_short [] small h e = let z : preset ≡ 0 = sym remainder_none ∙ e in omega arith
some_short (o ∷ []) small h e =
    let z : preset ≡ o * 2 ^ 8 =
    xor_apart preset (o * 2 ^ 8) (moves_none 8 (bit_xor preset (o * 2 ^ 8)) (xor_lt 16 preset (o * 2 ^ 8) (omega arith) (omega (arith, small.0)))
    (sym (taken_bits 8 preset o (omega arith) (omega arith) small.0) ∙ sym (remainder_one o) ∙ e)) in
    omega arith
some_short (o ∷ p ∷ os) small h e = absurd (omega arith)

module _ (f : List ℕ) (small : AllOctets f) (long : 2 ≤ length f) where
  abbrev front : List ℕ
  front = take (length f - 2) f

  abbrev back : List ℕ
  back = take 2 (drop (length f - 2) f)

  parts : front ++ back ≡ f
  parts = sym (take-add (length f - 2) 2 f) ∙ take_all (length f - 2 + 2) f (omega arith)

  whole : remainder f ≡ moves 16 (bit_xor (remainder front) (number back))
  whole =
      ap remainder (sym parts) ∙ remainder-append front back
      ∙ two_octets (remainder front) back (remainder_lt front) (all_take 2 (drop (length f - 2) f) (all_drop (length f - 2) f small))
      (length_run f (length f - 2) 2 (omega arith))

  back_lt : number back < 2 ^ 16
  back_lt = run_lt f (length f - 2) 2 small (omega arith)

  last_two : number_at 2 (length f - 2) f ≡ number back
  last_two = number_within 2 (length f - 2) f (omega arith)

  right_long : right f ≡ eqb (remainder f) 0
  unfolding right
  right_long =
      eqb_iff (number_at 2 (length f - 2) f) (remainder front) (remainder f) 0
      (λ e. whole ∙ ap (λ (n : ℕ). moves 16 (bit_xor (remainder front) n)) (sym last_two ∙ e)
      ∙ ap (moves 16) (xor_self (remainder front)) ∙ moves_nothing 16)
      (λ e. last_two ∙ sym (xor_apart (remainder front) (number back)
      (moves_none 16 (bit_xor (remainder front) (number back)) (xor_lt 16 (remainder front) (number back) (remainder_lt front) back_lt) (sym whole ∙ e))))

-- THE WHOLE LEAVES NOTHING: to compute the trailer again and compare, and to divide the whole frame, is the same test
pub right_whole : (f : List ℕ) → AllOctets f → right f ≡ eqb (remainder f) 0
right_whole f small =
    split 2 (length f) (right_long f small) (λ h. right_short f h ∙ sym (ne_eqb (remainder f) 0 (some_short f small h)))

-- ---- what is written

-- A WRITTEN TRAILER IS RIGHT
pub right_written : (os : List ℕ) → right (os ++ trailer os) ≡ true
unfolding right trailer
right_written os =
    let two : length (octets 2 (remainder os)) ≡ 2 = length-octets 2 (remainder os) in
    let n : length (os ++ octets 2 (remainder os)) - 2 ≡ length os = omega (arith, length-append os (octets 2 (remainder os))) in
    let f : List ℕ = os ++ octets 2 (remainder os) in
    let a : number_at 2 (length f - 2) f ≡ remainder os =
    number_within 2 (length f - 2) f (omega (arith, length-append os (octets 2 (remainder os))))
    ∙ ap (λ (k : ℕ). number (take 2 (drop k f))) n
    ∙ ap (λ (l : List ℕ). number (take 2 l)) (drop_at os (octets 2 (remainder os)) (length os) refl)
    ∙ ap number (take_all 2 (octets 2 (remainder os)) (omega arith)) ∙ number_octets 2 (remainder os) (remainder_lt os) in
    let b : remainder (take (length f - 2) f) ≡ remainder os =
    ap (λ (k : ℕ). remainder (take k f)) n ∙ ap remainder (take_at os (octets 2 (remainder os)) (length os) refl) in
    eq-eqb _ _ (a ∙ sym b)

-- AND ONLY A WRITTEN ONE: a right frame ends with the trailer of its front
pub right_only : (f : List ℕ) → AllOctets f → right f ≡ true → f ≡ take (length f - 2) f ++ trailer (take (length f - 2) f)
unfolding right trailer
right_only f small t =
    split 2 (length f)
    (λ h. sym (parts f small h) ∙ ap (λ (l : List ℕ). front f small h ++ l)
    (sym (octets_again f (length f - 2) 2 small (omega arith))
    ∙ ap (octets 2) (sym (last_two f small h) ∙ eqb-true (number_at 2 (length f - 2) f) (remainder (take (length f - 2) f)) t)))
    (λ h. let wrong : false ≡ true = sym (right_short f h) ∙ t in
    apart (cc))

-- the frame in a buffer to which the trailer was written, and where nothing is written
pub with_trailer_frame : (buffer : List ℕ) (at : ℕ) → at + 2 ≤ length buffer → take (at + 2) (with_trailer buffer at) ≡ take at buffer ++ trailer (take at buffer)
unfolding with_trailer trailer
with_trailer_frame buffer at h =
    let t : List ℕ = octets 2 (remainder (take at buffer)) in
    let two : length t ≡ 2 = length-octets 2 (remainder (take at buffer)) in
    ap₂ (λ (n : ℕ) (l : List ℕ). take (at + n) l) (sym two) (laid_within buffer at t (omega arith))
    ∙ over-take buffer at t (omega arith)

pub with_trailer_past : (buffer : List ℕ) (at : ℕ) → length buffer < at + 2 → with_trailer buffer at ≡ buffer
unfolding with_trailer trailer
with_trailer_past buffer at h =
    let two : length (octets 2 (remainder (take at buffer))) ≡ 2 = length-octets 2 (remainder (take at buffer)) in
    laid_past buffer at (octets 2 (remainder (take at buffer))) (omega arith)

-- A field of a word by a shift and a mask.
-- Assumes nothing.
use mathlib.Core.Path.{◌≡◌, refl, sym, ap, subst, ◌∙◌}
use Prim.Native.Nat.{ℕ, ◌+◌, ◌-◌, ◌*◌, ◌/◌, ◌%◌, ◌^◌, ◌≤◌, ◌<◌}
use native.Mathlib.Nat.{lt_of_lt_of_le, lt_of_le_of_lt, div-eq_of_lt, mod-eq_of_lt, mod-lt, mod-le, le_refl, le_trans, mul-mod_left, mul_assoc, one-mul, mod-one, zero-mod, add-zero}
use native.Mathlib.Omega.{arith}
use lib.Bits.{bit_and, bit_or, and_mask, or_shifted}
use lib.Arith.{digits_lt}
use lib.Pow.{pow_pos, pow_mono, pow-lt, pow-add, mod-pow-add, mod-mod-pow, shl_exact, shl-shr, shr_le, shr_lt, shr-shr, high, low}
use lib.Pow as pow
use Rattle.words.specs.Fields.{field, join, placed}

-- no bits are left above the word
pub above_past : (bits word place : ℕ) → word < 2 ^ bits → bits ≤ place → word / 2 ^ place ≡ 0
above_past bits word place h k = div-eq_of_lt (lt_of_lt_of_le h (pow_mono k))

-- the field holds all the bits that are left
pub field_rest : (bits word place width : ℕ) → word < 2 ^ bits → bits ≤ width → field word place width ≡ word / 2 ^ place
unfolding field
field_rest bits word place width h k =
    mod-eq_of_lt (lt_of_le_of_lt (shr_le word place) (lt_of_lt_of_le h (pow_mono k)))

-- a field is no more than its word
pub field_le : (word place width : ℕ) → field word place width ≤ word
unfolding field
field_le word place width = le_trans (mod-le (word / 2 ^ place) (2 ^ width)) (shr_le word place)

-- and within its width, or any wider
pub field_within : (bits word place width : ℕ) → width ≤ bits → field word place width < 2 ^ bits
unfolding field
field_within bits word place width h = lt_of_lt_of_le (mod-lt (word / 2 ^ place) (pow_pos width)) (pow_mono h)

pub field_lt : (word place width : ℕ) → field word place width < 2 ^ width
field_lt word place width = field_within width word place width (le_refl width)

-- one bit moved up stands for the power
pub one_up : (bits width : ℕ) → width < bits → (1 * 2 ^ width) % 2 ^ bits ≡ 2 ^ width
one_up bits width h = rw one-mul (mod-eq_of_lt (pow-lt h))

pub field_mask : (bits word place width : ℕ) → width < bits
    → bit_and (word / 2 ^ place) ((1 * 2 ^ width) % 2 ^ bits - 1) ≡ field word place width
unfolding field
field_mask bits word place width h = rw (one_up bits width h) (and_mask (word / 2 ^ place) width)

-- ---- two words joined

-- what is moved up leaves the low bits free
shifted : (bits high width : ℕ) → width ≤ bits → high * 2 ^ width % 2 ^ bits ≡ (high % 2 ^ (bits - width)) * 2 ^ width
shifted bits high width h =
    let e : bits ≡ bits - width + width = omega arith in
    ap (λ (k : ℕ). high * 2 ^ width % 2 ^ k) e
    ∙ mod-pow-add (high * 2 ^ width) (bits - width) width
    ∙ rw (shl-shr high width, mul-mod_left high (2 ^ width)) (omega arith)

pub join_past : (high width low : ℕ) → low < 2 ^ 64 → 64 ≤ width → low ≡ join high width low
unfolding join
join_past high width low h k =
    let e : width ≡ width - 64 + 64 = omega arith in
    let z : high * 2 ^ width % 2 ^ 64 ≡ 0 =
    ap (λ (w : ℕ). high * 2 ^ w % 2 ^ 64) e ∙ ap (λ (x : ℕ). high * x % 2 ^ 64) (pow-add 2 (width - 64) 64)
    ∙ ap (λ (x : ℕ). x % 2 ^ 64) (sym (mul_assoc high (2 ^ (width - 64)) (2 ^ 64))) ∙ mul-mod_left (high * 2 ^ (width - 64)) (2 ^ 64) in
    rw (z, mod-eq_of_lt (lt_of_lt_of_le h (pow_mono k))) (omega arith)

pub join_masked : (high width low : ℕ) → width < 64
    → bit_or (high * 2 ^ width % 2 ^ 64) (bit_and low ((1 * 2 ^ width) % 2 ^ 64 - 1)) ≡ join high width low
unfolding join
join_masked high width low h =
    rw (one_up 64 width h, and_mask low width, shifted 64 high width (omega arith))
    (or_shifted (high % 2 ^ (64 - width)) width (low % 2 ^ width) (mod-lt low (pow_pos width)))

-- ---- a field replaced

-- a word that leaves room above is joined as a sum
join_room : (room high width low : ℕ) → high < 2 ^ room → room + width ≤ 64 → join high width low ≡ high * 2 ^ width + low % 2 ^ width
unfolding join
join_room room high width low h k = rw (shl_exact room width 64 h k) refl

-- THE LAW OF FIELDS, for any place and width in a word: what is put in is read back there (`placed_read`), and every field
-- that lies below it or above it stays (`placed_below`, `placed_above`).
module _ (word place width value : ℕ) (fits : word < 2 ^ 64) (inside : place + width ≤ 64) where
  abbrev room : ℕ
  room = 64 - (place + width)

  -- the bits above the field, and the value below them
  abbrev top : ℕ
  top = word / 2 ^ (place + width) * 2 ^ width + value % 2 ^ width

  above_lt : word / 2 ^ (place + width) < 2 ^ room
  above_lt =
      let e : 64 ≡ room + (place + width) = omega arith in
      shr_lt room (place + width) (subst (λ (n : ℕ). word < 2 ^ n) e fits)

  top_lt : top < 2 ^ (room + width)
  top_lt = rw (pow-add 2 room width) (digits_lt above_lt (mod-lt value (pow_pos width)))

  below_lt : word % 2 ^ place < 2 ^ place
  below_lt = mod-lt word (pow_pos place)

  as_sum : placed word place width value ≡ top * 2 ^ place + word % 2 ^ place
  unfolding placed
  as_sum =
      ap (λ (n : ℕ). join n place word) (join_room room (word / 2 ^ (place + width)) width value above_lt (omega arith))
      ∙ join_room (room + width) top place word top_lt (omega arith)

  pub placed_lt : placed word place width value < 2 ^ 64
  placed_lt =
      let e : room + width + place ≡ 64 = omega arith in
      let h : top * 2 ^ place + word % 2 ^ place < 2 ^ (room + width + place) =
      rw (pow-add 2 (room + width) place) (digits_lt top_lt below_lt) in
      rw as_sum (subst (λ (n : ℕ). top * 2 ^ place + word % 2 ^ place < 2 ^ n) e h)

  -- a word of fewer bits stays so
  pub placed_within : (bits : ℕ) → word < 2 ^ bits → place + width ≤ bits → placed word place width value < 2 ^ bits
  placed_within bits h k =
      let more : ℕ = bits - (place + width) in
      let e : bits ≡ more + (place + width) = omega arith in
      let above : word / 2 ^ (place + width) < 2 ^ more = shr_lt more (place + width) (subst (λ (n : ℕ). word < 2 ^ n) e h) in
      let up : top < 2 ^ (more + width) = rw (pow-add 2 more width) (digits_lt above (mod-lt value (pow_pos width))) in
      let whole : top * 2 ^ place + word % 2 ^ place < 2 ^ (more + width + place) = rw (pow-add 2 (more + width) place) (digits_lt up below_lt) in
      let f : more + width + place ≡ bits = omega arith in
      rw as_sum (subst (λ (n : ℕ). top * 2 ^ place + word % 2 ^ place < 2 ^ n) f whole)

  shifted_down : placed word place width value / 2 ^ place ≡ top
  shifted_down = ap (λ (n : ℕ). n / 2 ^ place) as_sum ∙ high top place below_lt

  pub placed_read : field (placed word place width value) place width ≡ value % 2 ^ width
  unfolding field
  placed_read =
      ap (λ (n : ℕ). n % 2 ^ width) shifted_down
      ∙ low (word / 2 ^ (place + width)) width (mod-lt value (pow_pos width))

  pub placed_above : (other size : ℕ) → place + width ≤ other → field (placed word place width value) other size ≡ field word other size
  unfolding field
  placed_above other size h =
      let more : ℕ = other - (place + width) in
      let e : other ≡ place + width + more = omega arith in
      let up : (n : ℕ) → n / 2 ^ other ≡ n / 2 ^ (place + width) / 2 ^ more =
      λ n. ap (λ (k : ℕ). n / 2 ^ k) e ∙ sym (shr-shr n (place + width) more) in
      let same : placed word place width value / 2 ^ (place + width) ≡ word / 2 ^ (place + width) =
      sym (shr-shr (placed word place width value) place width)
      ∙ ap (λ (n : ℕ). n / 2 ^ width) shifted_down
      ∙ high (word / 2 ^ (place + width)) width (mod-lt value (pow_pos width)) in
      ap (λ (n : ℕ). n % 2 ^ size)
      (up (placed word place width value) ∙ ap (λ (n : ℕ). n / 2 ^ more) same ∙ sym (up word))

  pub placed_below : (other size : ℕ) → other + size ≤ place → field (placed word place width value) other size ≡ field word other size
  unfolding field
  placed_below other size h =
      let more : ℕ = place - (size + other) in
      let e : place ≡ more + (size + other) = omega arith in
      let cut : (n : ℕ) → n / 2 ^ other % 2 ^ size ≡ n % 2 ^ place % 2 ^ (size + other) / 2 ^ other =
      λ n. sym (ap (λ (k : ℕ). n % 2 ^ k % 2 ^ (size + other) / 2 ^ other) e
      ∙ ap (λ (k : ℕ). k / 2 ^ other) (mod-mod-pow n more (size + other))
      ∙ pow.field n size other) in
      let same : placed word place width value % 2 ^ place ≡ word % 2 ^ place =
      ap (λ (n : ℕ). n % 2 ^ place) as_sum ∙ low top place below_lt in
      cut (placed word place width value)
      ∙ ap (λ (n : ℕ). n % 2 ^ (size + other) / 2 ^ other) same
      ∙ sym (cut word)

-- ---- a word by its fields

-- words that agree below a field and in it agree up to its end
pub agree_on : (a b place width : ℕ) → a % 2 ^ place ≡ b % 2 ^ place → field a place width ≡ field b place width
    → a % 2 ^ (width + place) ≡ b % 2 ^ (width + place)
unfolding field
agree_on a b place width h e = rw (mod-pow-add a width place, mod-pow-add b width place, h, e) refl

field-zero : (place width : ℕ) → field 0 place width ≡ 0
unfolding field
field-zero place width = ap (λ (n : ℕ). n % 2 ^ width) (div-eq_of_lt (pow_pos place)) ∙ zero-mod (2 ^ width)

-- a word that has one field, at its foot
module _ (width value : ℕ) (inside : width ≤ 64) where
  pub foot_read : value < 2 ^ width → field (placed 0 0 width value) 0 width ≡ value
  foot_read h = placed_read 0 0 width value (pow_pos 64) (omega arith) ∙ mod-eq_of_lt h

  pub foot_above : (place size : ℕ) → width ≤ place → field (placed 0 0 width value) place size ≡ 0
  foot_above place size h = placed_above 0 0 width value (pow_pos 64) (omega arith) place size (omega arith) ∙ field-zero place size

  pub foot_lt : (bits : ℕ) → width ≤ bits → placed 0 0 width value < 2 ^ bits
  foot_lt bits h = placed_within 0 0 width value (pow_pos 64) (omega arith) bits (pow_pos bits) (omega arith)

-- a word with nothing above the field at its foot is that field, put into 0
pub foot_only : (bits width word : ℕ) → bits ≤ 64 → width ≤ bits → word < 2 ^ bits → field word width (bits - width) ≡ 0
    → word ≡ placed 0 0 width (field word 0 width)
foot_only bits width word n h k e =
    let v : ℕ = field word 0 width in
    let b : ℕ = placed 0 0 width v in
    let inside : width ≤ 64 = omega arith in
    let low_same : word % 2 ^ (width + 0) ≡ b % 2 ^ (width + 0) =
    agree_on word b 0 width (mod-one word ∙ sym (mod-one b)) (sym (foot_read width v inside (field_lt word 0 width))) in
    let wide : bits - width + width ≡ bits = omega arith in
    let same : word % 2 ^ bits ≡ b % 2 ^ bits =
    subst (λ (j : ℕ). word % 2 ^ j ≡ b % 2 ^ j) wide
    (agree_on word b width (bits - width) (subst (λ (j : ℕ). word % 2 ^ j ≡ b % 2 ^ j) (add-zero width) low_same)
    (e ∙ sym (foot_above width v inside width (bits - width) (omega arith)))) in
    sym (mod-eq_of_lt k) ∙ same ∙ mod-eq_of_lt (foot_lt width v inside bits h)

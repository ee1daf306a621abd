-- The wheel of a count, over any width: differences that wrap at a word's width, and then at the wheel's.
-- Assumes nothing.
use Rattle.std.proofs.Common.{◌≡◌, ℕ, ◌+◌, ◌-◌, ◌*◌, ◌/◌, ◌%◌, ◌^◌, ◌<◌, ◌≤◌, true, ltb, ◌↔◌, sym, refl, ap, ◌∙◌, mod-lt, mod-eq_of_lt, add-mul, add_comm, div-add-mod', arith, pow_pos, pow_mono, lt-ltb}
use native.Mathlib.Nat.{mod-add-mod, mod_self, zero-mod, add-mul-mod_self_right}
use lib.Pow.{pow-lt, mod-mod-pow}
use Rattle.octets.proofs.Choices.{split}
use Rattle.frames.specs.Edition.{count_in}
use Rattle.frames.specs.Link.{count_width, next_count, missing}
use Rattle.frames.specs.declared.Link.{Link}
use Rattle.frames.proofs.Signals.{cycle_narrow, count_in_lt}

-- on a wheel of m places, r before c and one past `last`
turned : (m last c r : ℕ) → 0 < m → (r + 1 + last) % m ≡ c % m → r % m ≡ (c + m - (last % m + 1)) % m
turned m last c r pos h =
    let t : last % m < m = mod-lt last pos in
    let a : c + m - (last % m + 1) ≡ c + (m - (last % m + 1)) = omega arith in
    let b : r + 1 + last + (m - (last % m + 1)) ≡ r + (last / m + 1) * m = omega (arith, div-add-mod' last m, add-mul (last / m) 1 m) in
    sym (ap (λ (x : ℕ). x % m) a ∙ sym (mod-add-mod c m (m - (last % m + 1)))
    ∙ ap (λ (x : ℕ). (x + (m - (last % m + 1))) % m) (sym h)
    ∙ mod-add-mod (r + 1 + last) m (m - (last % m + 1))
    ∙ ap (λ (x : ℕ). x % m) b ∙ add-mul-mod_self_right r (last / m + 1) m)

pub missing_wraps : (bits width last c d r : ℕ) → width ≤ bits → (d + last) % 2 ^ bits ≡ c → (r + 1) % 2 ^ bits ≡ d → r % 2 ^ width ≡ missing width last c
unfolding missing
missing_wraps bits width last c d r h p q =
    let e : bits ≡ bits - width + width = omega arith in
    let w : (r + 1 + last) % 2 ^ bits ≡ c = sym (mod-add-mod (r + 1) (2 ^ bits) last) ∙ ap (λ (x : ℕ). (x + last) % 2 ^ bits) q ∙ p in
    turned (2 ^ width) last c r (pow_pos width)
    (sym (mod-mod-pow (r + 1 + last) (bits - width) width) ∙ ap (λ (k : ℕ). (r + 1 + last) % 2 ^ k % 2 ^ width) (sym e) ∙ ap (λ (x : ℕ). x % 2 ^ width) w)

-- c comes after `last`, the frames that are missing and one more
pub after_missing : (width last c : ℕ) → (missing width last c + (last + 1)) % 2 ^ width ≡ c % 2 ^ width
unfolding missing
after_missing width last c =
    let m : ℕ = 2 ^ width in
    let t : last % m < m = mod-lt last (pow_pos width) in
    let e : c + m - (last % m + 1) + (last + 1) ≡ c + (last / m + 1) * m =
    omega (arith, div-add-mod' last m, add-mul (last / m) 1 m) in
    mod-add-mod (c + m - (last % m + 1)) m (last + 1) ∙ ap (λ (x : ℕ). x % m) e ∙ add-mul-mod_self_right c (last / m + 1) m

-- no frame is missing where the count is the next one, and nowhere else
pub none_missing : (width last c : ℕ) → c < 2 ^ width → (missing width last c ≡ 0) ↔ (c ≡ next_count width last)
unfolding next_count
none_missing width last c small = (
  (λ e.
      let one_on : last + 1 ≡ missing width last c + (last + 1) = omega arith in
      sym (ap (λ (k : ℕ). k % 2 ^ width) one_on ∙ after_missing width last c ∙ mod-eq_of_lt small)),
  (λ e.
      let next : (1 % 2 ^ width + last) % 2 ^ width ≡ c =
      mod-add-mod 1 (2 ^ width) last ∙ ap (λ (k : ℕ). k % 2 ^ width) (add_comm 1 last) ∙ sym e in
      sym (missing_wraps width width last c (1 % 2 ^ width) 0 (omega arith) next refl) ∙ zero-mod (2 ^ width)),
)

-- the count before c: as many frames are missing after 0
abbrev pub count_before : ℕ → ℕ → ℕ
count_before width c = missing width 0 c

pub missing_lt : (width last c : ℕ) → missing width last c < 2 ^ width
unfolding missing
missing_lt width last c = mod-lt (c + 2 ^ width - (last % 2 ^ width + 1)) (pow_pos width)

pub before_on_wheel : (width c : ℕ) → count_before width c < 2 ^ width
before_on_wheel width c = missing_lt width 0 c

pub follows_before : (width c : ℕ) → c < 2 ^ width → missing width (count_before width c) c ≡ 0
unfolding next_count
follows_before width c small =
    (none_missing width (count_before width c) c small).1 (sym (after_missing width 0 c ∙ mod-eq_of_lt small))

-- no count follows itself, where the wheel has more than one place
pub follows_another : (width c : ℕ) → 1 ≤ width → c < 2 ^ width → next_count width c ≡ c → ⊥
unfolding next_count
follows_another width c wide small e =
    split (2 ^ width) (c + 1)
    (λ h.
    let last : c + 1 ≡ 2 ^ width = omega arith in
    let two : 2 ^ 1 ≤ 2 ^ width = pow_mono wide in
    omega (arith, ap (λ (k : ℕ). k % 2 ^ width) last, mod_self (2 ^ width)))
    (λ h. omega (arith, mod-eq_of_lt h))

-- a count that is read is on the wheel
pub count_lt : (l : Link) (word : ℕ) → count_in l.edition word < 2 ^ count_width l
unfolding count_width
count_lt l word = count_in_lt l.edition word

-- a wheel goes round within a word of 32 bits, has more than one place, and 0 is on it
pub count_narrow : (l : Link) → count_width l < 32
unfolding count_width
count_narrow l = omega (arith, cycle_narrow l.edition)

pub wheel_in_word : (l : Link) → 2 ^ count_width l < 2 ^ 32
wheel_in_word l = pow-lt (count_narrow l)

pub count_wide : (l : Link) → 1 ≤ count_width l
unfolding count_width
count_wide l = omega arith

pub starts_on_wheel : (l : Link) → ltb 0 (2 ^ count_width l) ≡ true
starts_on_wheel l = lt-ltb 0 (2 ^ count_width l) (pow_pos (count_width l))

-- a sum that wraps at a word's width wraps at the wheel's
pub next_wraps : (bits width c : ℕ) → width ≤ bits → (c + 1) % 2 ^ bits % 2 ^ width ≡ next_count width c
unfolding next_count
next_wraps bits width c h =
    let e : bits ≡ bits - width + width = omega arith in
    ap (λ (k : ℕ). (c + 1) % 2 ^ k % 2 ^ width) e ∙ mod-mod-pow (c + 1) (bits - width) width

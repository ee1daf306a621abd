-- A header with at most two of its ten symbols changed is read as it was sent; its count is not covered.
-- Assumes nothing.
use mathlib.Core.Path.{◌≡◌, refl, sym, ap, ap₂, ◌∙◌, subst}
use Prim.Native.Nat.{ℕ, ◌+◌, ◌*◌, ◌/◌, ◌%◌, ◌^◌, ◌<◌, ◌≤◌}
use mathlib.Core.List.{[], ◌∷◌}
use mathlib.Core.Bool.{Bool}
use native.Mathlib.Nat.{mod-eq_of_lt}
use native.Mathlib.Omega.{arith}
use borrow.Author.Tests.{eq-eqb, ne_eqb}
use Rattle.octets.specs.Basics.{pick, number, number_from}
use Rattle.words.specs.Fields.{field, placed, join}
use Rattle.repair.specs.Code.{Answer, written, reading, distance, Near}
use Rattle.repair.specs.Header.{six_of, header_checks, covered, with_six, header_of, header_reading}
use Rattle.repair.proofs.Roots.{checks_lt}
use Rattle.repair.proofs.Nearest.{read_as_sent, refused_when_none}

pub six_lt : (head : ℕ) → six_of head < 16 ^ 6
unfolding six_of field
six_lt head = omega arith

-- what is written is a rightly written word
pub covered_written : (head : ℕ) → covered head (header_checks head) ≡ written (six_of head)
unfolding covered header_checks written
covered_written head = refl

-- the six symbols of a rightly written word
six_back : (six : ℕ) → written six / 16 ^ 4 ≡ six
unfolding written
six_back six = omega (arith, checks_lt six)

-- ---- the octets that are covered

module _ (o0 o1 o2 o3 o4 o5 o6 o7 : ℕ) (h0 : o0 < 256) (h1 : o1 < 256) (h2 : o2 < 256) (h3 : o3 < 256) (h4 : o4 < 256) (h5 : o5 < 256) where
  before : ℕ
  before = o0 * 256 + o1

  middle : ℕ
  middle = (o2 * 256 + o3) * 256 + o4

  as_sum : number (o0 ∷ o1 ∷ o2 ∷ o3 ∷ o4 ∷ o5 ∷ []) ≡ before * 2 ^ 32 + (middle * 2 ^ 8 + o5)
  unfolding number number_from before middle
  as_sum = omega arith

  before_lt : before < 2 ^ 16
  unfolding before
  before_lt = omega arith

  middle_lt : middle < 2 ^ 24
  unfolding middle
  middle_lt = omega arith

  six_octets : six_of (before * 2 ^ 32 + (middle * 2 ^ 8 + o5)) ≡ before * 256 + o5
  unfolding six_of field
  six_octets =
      let a : (before * 2 ^ 32 + (middle * 2 ^ 8 + o5)) / 2 ^ 32 ≡ before = omega (arith, middle_lt) in
      let b : (before * 2 ^ 32 + (middle * 2 ^ 8 + o5)) / 2 ^ 0 % 2 ^ 8 ≡ o5 = omega arith in
      let c : before % 2 ^ 16 ≡ before = mod-eq_of_lt before_lt in
      ap₂ (λ (x y : ℕ). x % 2 ^ 16 * 256 + y) a b ∙ ap (λ (x : ℕ). x * 256 + o5) c

  pub six_in_octets : six_of (number (o0 ∷ o1 ∷ o2 ∷ o3 ∷ o4 ∷ o5 ∷ [])) ≡ number (o0 ∷ o1 ∷ o5 ∷ [])
  unfolding number number_from before
  six_in_octets = ap six_of as_sum ∙ six_octets ∙ omega arith

  -- octets 0, 1, 5, 6 and 7, so that a word's ten symbols are their halves, high half first
  pub covered_octets : covered (number (o0 ∷ o1 ∷ o2 ∷ o3 ∷ o4 ∷ o5 ∷ [])) (number (o6 ∷ o7 ∷ [])) ≡ number (o0 ∷ o1 ∷ o5 ∷ o6 ∷ o7 ∷ [])
  unfolding covered number number_from before
  covered_octets =
      ap (λ (x : ℕ). six_of x * 16 ^ 4 + number (o6 ∷ o7 ∷ [])) as_sum ∙ ap (λ (x : ℕ). x * 16 ^ 4 + number (o6 ∷ o7 ∷ [])) six_octets ∙ together
    where
      together : (before * 256 + o5) * 16 ^ 4 + number (o6 ∷ o7 ∷ []) ≡ number (o0 ∷ o1 ∷ o5 ∷ o6 ∷ o7 ∷ [])
      together = omega arith

-- ---- a header with the covered octets of another, and with its count, is that other

last_put : (head v : ℕ) → head < 2 ^ 48 → placed head 0 8 v ≡ head / 2 ^ 8 * 2 ^ 8 + v % 2 ^ 8
unfolding placed join
last_put head v h = omega arith

next : (x y : ℕ) → y < 2 ^ 8 → (x * 2 ^ 8 + y) / 2 ^ 8 ≡ x
next x y h = omega arith

first_put : (x v : ℕ) → x < 2 ^ 48 → placed x 32 16 v ≡ v % 2 ^ 16 * 2 ^ 32 + x % 2 ^ 32
unfolding placed join
first_put x v h = omega arith

module _ (head sent : ℕ) (h : head < 2 ^ 48) (g : sent < 2 ^ 48) (e : field head 8 24 ≡ field sent 8 24) where
  sent_first : six_of sent / 2 ^ 8 % 2 ^ 16 ≡ sent / 2 ^ 32
  unfolding six_of field
  sent_first =
      let a : (sent / 2 ^ 32 % 2 ^ 16 * 2 ^ 8 + sent / 2 ^ 0 % 2 ^ 8) / 2 ^ 8 ≡ sent / 2 ^ 32 % 2 ^ 16 = next (sent / 2 ^ 32 % 2 ^ 16) (sent / 2 ^ 0 % 2 ^ 8) (omega arith) in
      let b : sent / 2 ^ 32 < 2 ^ 16 = omega arith in
      ap (λ (x : ℕ). x % 2 ^ 16) (a ∙ mod-eq_of_lt b) ∙ mod-eq_of_lt b

  sent_last : six_of sent % 2 ^ 8 ≡ sent % 2 ^ 8
  unfolding six_of field
  sent_last = omega arith

  count_kept : (head / 2 ^ 8 * 2 ^ 8 + sent % 2 ^ 8) % 2 ^ 32 ≡ sent % 2 ^ 32
  unfolding field
  count_kept =
      let f : head / 2 ^ 8 % 2 ^ 24 ≡ sent / 2 ^ 8 % 2 ^ 24 = e in
      let a : (head / 2 ^ 8 * 2 ^ 8 + sent % 2 ^ 8) % 2 ^ 32 ≡ head / 2 ^ 8 % 2 ^ 24 * 2 ^ 8 + sent % 2 ^ 8 = omega arith in
      let b : sent % 2 ^ 32 ≡ sent / 2 ^ 8 % 2 ^ 24 * 2 ^ 8 + sent % 2 ^ 8 = omega arith in
      a ∙ ap (λ (x : ℕ). x * 2 ^ 8 + sent % 2 ^ 8) f ∙ sym b

  pub put_back : with_six head (six_of sent) ≡ sent
  unfolding with_six
  put_back =
      ap (λ (x : ℕ). placed x 32 16 (six_of sent / 2 ^ 8)) (last_put head (six_of sent) h ∙ ap (λ (x : ℕ). head / 2 ^ 8 * 2 ^ 8 + x) sent_last)
      ∙ first_put (head / 2 ^ 8 * 2 ^ 8 + sent % 2 ^ 8) (six_of sent / 2 ^ 8) (omega arith)
      ∙ ap₂ (λ (x y : ℕ). x * 2 ^ 32 + y) sent_first count_kept ∙ whole
    where
      whole : sent / 2 ^ 32 * 2 ^ 32 + sent % 2 ^ 32 ≡ sent
      whole = omega arith

-- THE HEADER AS SENT
pub header_as_sent : (sent head after : ℕ) → sent < 2 ^ 48 → head < 2 ^ 48 → field head 8 24 ≡ field sent 8 24
    → distance 10 (covered head after) (covered sent (header_checks sent)) ≤ 2 → header_reading head after ≡ record { refusal = 0; read = sent }
unfolding header_reading header_of
header_as_sent sent head after g h e close =
    ap (header_of head)
    (read_as_sent (six_of sent) (covered head after) (six_lt sent)
    (subst (λ (x : ℕ). distance 10 (covered head after) x ≤ 2) (covered_written sent) close))
    ∙ ap (λ (x : ℕ). record { refusal = 0; read = x }) (ap (with_six head) (six_back (six_of sent)) ∙ put_back head sent h g e)

-- THE HEADER REFUSED: 14 where no rightly written word is so near
pub header_refused : (head after : ℕ) → ((v : ℕ) → Near (covered head after) v → ⊥) → header_reading head after ≡ record { refusal = 14; read = 0 }
unfolding header_reading header_of
header_refused head after none = ap (header_of head) (refused_when_none (covered head after) none)

-- ---- as the code has it

pub refused_by : (head after : ℕ) (r : Answer) → r ≡ reading (covered head after) → (r.refusal ≡ 0 → ⊥)
    → record { refusal = r.refusal; read = 0 } ≡ header_reading head after
unfolding header_reading header_of
refused_by head after r e ne =
    sym (ap (λ (b : Bool). pick b (record { refusal = 0; read = with_six head (r.read / 16 ^ 4) }) (record { refusal = r.refusal; read = 0 })) (ne_eqb r.refusal 0 ne))
    ∙ ap (header_of head) e

pub read_by : (head after : ℕ) (r : Answer) → r ≡ reading (covered head after) → r.refusal ≡ 0
    → record { refusal = 0; read = with_six head (r.read / 16 ^ 4) } ≡ header_reading head after
unfolding header_reading header_of
read_by head after r e z =
    sym (ap (λ (b : Bool). pick b (record { refusal = 0; read = with_six head (r.read / 16 ^ 4) }) (record { refusal = r.refusal; read = 0 })) (eq-eqb r.refusal 0 z))
    ∙ ap (header_of head) e

-- What a header says, with the numbers as the code reads them.
-- Assumes nothing.
use Rattle.std.proofs.Common.{◌≡◌, ℕ, suc, ◌-◌, ◌^◌, ◌<◌, ◌≤◌, eqb, ltb, List, length, sym, refl, ◌∙◌, le_refl, arith, pow_mono, le-ltb, lt-ltb, eq-eqb, ne_eqb}
use native.Mathlib.Nat.{zero-mod}
use Rattle.octets.specs.Basics.{number_at, first}
use Rattle.words.specs.Fields.{field, placed}
use Rattle.octets.proofs.Choices.{split}
use Rattle.octets.proofs.Tests.{test}
use Rattle.words.proofs.Fields.{above_past, field_rest, field_lt, foot_lt, foot_only}
use Rattle.octets.proofs.Numbers.{number_within}
use Rattle.trailer.specs.Trailer.{wrong}
use Rattle.frames.specs.Link.{primary, zone_head}
use Rattle.frames.specs.Shape.{Shape, shape_length, both_rows, outer_rows, shape_rows, no_heading, heading_of, heading_by, shape_heading}
use Rattle.frames.specs.declared.Link.{Link}
use Rattle.frames.proofs.Rows.{sound_before}

-- a number is its own foot where it has no bit above it
pub foot_fits : (n width : ℕ) → eqb (field n 0 width) n ≡ ltb n (2 ^ width)
foot_fits n width =
    split (suc n) (2 ^ width)
    (λ h. eq-eqb _ _ (field_rest width n 0 width h (le_refl width) ∙ omega arith) ∙ sym (lt-ltb n (2 ^ width) h))
    (λ h. ne_eqb (field n 0 width) n (λ e. omega (arith, field_lt n 0 width)) ∙ sym (le-ltb n (2 ^ width) (omega arith)))

none_above : (n width more : ℕ) → n < 2 ^ width → field n width more ≡ 0
unfolding field
none_above n width more h = rw (above_past width n width h (le_refl width)) (zero-mod (2 ^ more))

foot_alone : (n width : ℕ) → n < 2 ^ 16 → width ≤ 16 → field n width (16 - width) ≡ 0 → n < 2 ^ width
foot_alone n width small narrow e =
    let below : placed 0 0 width (field n 0 width) < 2 ^ width = foot_lt width (field n 0 width) (omega arith) width (le_refl width) in
    omega (arith, foot_only 16 width n (omega arith) narrow small e)

-- and the spare bits of a zone's header are those above the pointer
pub spare_fits : (zone width : ℕ) → zone < 2 ^ 16 → eqb (field zone width (16 - width)) 0 ≡ ltb zone (2 ^ width)
spare_fits zone width small =
    split (suc zone) (2 ^ width) (λ h. eq-eqb _ _ (none_above zone width (16 - width) h) ∙ sym (lt-ltb zone (2 ^ width) h))
    (λ h. ne_eqb (field zone width (16 - width)) 0 (λ e. omega (arith, foot_alone zone width small (narrow h) e)) ∙ sym (le-ltb zone (2 ^ width) (omega arith)))
  where
    narrow : 2 ^ width < suc zone → width ≤ 16
    narrow h = split width 16 (λ k. k) (λ k. let wide : 2 ^ 16 ≤ 2 ^ width = pow_mono {i = 16} {j = width} (omega arith) in absurd (omega arith))

-- a frame with room for both headers has both
module _ (l : Link) (f : List ℕ) (room : 8 ≤ length f) where
  primary_at : number_at 6 0 f ≡ primary l f
  unfolding primary
  primary_at = number_within 6 0 f (omega arith)

  zone_head_at : number_at 2 6 f ≡ zone_head l f
  unfolding zone_head
  zone_head_at = number_within 2 6 f room

-- a refusal before the headers is the frame's
pub outer_refused : (h : Shape) (f : List ℕ) {n : ℕ} → n ≡ first (outer_rows h f) → (n ≡ 0 → ⊥) → no_heading n ≡ shape_heading h (shape_rows h f) f
unfolding first heading_of
outer_refused h f e some =
    test (eqb (length f) (shape_length h))
    (λ t. test (wrong h.link.trailed f) (λ u. rw (e, t, u) refl) (λ u. absurd (some (e ∙ rw (t, u) refl))))
    (λ t. rw (e, t) refl)

-- the heading of a frame that is not refused before its headers, by both headers' numbers
pub heading_reads : (h : Shape) (f : List ℕ) {head zone : ℕ} → first (outer_rows h f) ≡ 0 → head ≡ number_at 6 0 f → zone ≡ number_at 2 6 f
    → heading_by h (first (both_rows h head zone)) head zone ≡ shape_heading h (shape_rows h f) f
unfolding first
heading_reads h f none p z =
    let sound = sound_before h f none in
    let room : 8 ≤ length f = omega (arith, sound.0) in
    rw (eq-eqb _ _ sound.0, sound.1, p, z, primary_at h.link f room, zone_head_at h.link f room) refl

-- What a frame that is not refused is like: its length, its zone, its pointer.
-- Assumes nothing.
use Rattle.std.proofs.Common.{◌≡◌, ℕ, ◌+◌, ◌-◌, ◌^◌, ◌<◌, ◌≤◌, true, false, eqb, leb, List, length, take, drop, sym, refl, ap, ◌∙◌, arith, length-drop, length-take-le, take-take, drop-drop, take-add, drop_at, eqb-true, leb-false}
use borrow.Author.Tests.{eqb-false}
use Rattle.octets.specs.Basics.{first}
use Rattle.octets.proofs.Choices.{refusal_kept}
use Rattle.octets.proofs.Written.{length_run}
use Rattle.words.proofs.Fields.{field_lt}
use Rattle.octets.proofs.Tests.{test}
use Rattle.frames.specs.Link.{zone_at, zone_head}
use Rattle.frames.specs.Frame.{idle_zone, no_start, in_range, packet_shape, frame_length, frame_rows, zone_of, count, replay, pointer, unused, heading_rows, heading, heading_of}
use Rattle.frames.specs.declared.Settings.{Settings}
use Rattle.frames.specs.Shape.{Heading}
use Rattle.frames.proofs.Rows.{sound_frame}

pub length_zone : (s : Settings) (f : List ℕ) → length f ≡ frame_length s → length (zone_of s f) ≡ s.zone
unfolding zone_of frame_length
length_zone s f e = length_run f (zone_at s.link) s.zone (omega arith)

-- a part of the zone is that part of the frame, behind the headers
pub zone_part : (s : Settings) (f : List ℕ) → length f ≡ frame_length s → (at l : ℕ) → at + l ≤ s.zone
    → take l (drop at (zone_of s f)) ≡ take l (drop (zone_at s.link + at) f)
unfolding zone_of frame_length
zone_part s f e at l h =
    let x : List ℕ = drop (zone_at s.link) f in
    let whole : at + (s.zone - at) ≡ s.zone = omega arith in
    let room : at ≤ length (drop (zone_at s.link) f) = simp length-drop (omega arith) in
    ap (λ (n : ℕ). take l (drop at (take n x))) (sym whole)
    ∙ ap (λ (xs : List ℕ). take l (drop at xs)) (take-add at (s.zone - at) x)
    ∙ ap (take l) (drop_at (take at x) (take (s.zone - at) (drop at x)) at (length-take-le at x room))
    ∙ take-take l (s.zone - at) (drop at x) (omega arith)
    ∙ ap (take l) (drop-drop at (zone_at s.link) f)

-- what the pointer of a frame that is not refused can be
pub data Pointed (s : Settings) (f : List ℕ) : Type 0 where
  offset : pointer s f < s.zone → Pointed s f
  idles : pointer s f ≡ idle_zone → Pointed s f
  starts_none : pointer s f ≡ no_start → Pointed s f

pub record Accepted (s : Settings) (f : List ℕ) : Type 0 where
  pub right-length : length f ≡ frame_length s
  pub pointed : Pointed s f

which_pointer : (s : Settings) (f : List ℕ) → unused s (pointer s f) ≡ false → Pointed s f
unfolding unused
which_pointer s f e =
    let p : ℕ = pointer s f in
    let small : p < 2 ^ 11 = field_lt (zone_head s.link f) 0 11 in
    test (leb s.zone p)
    (λ t. let high : 2045 < p = leb-false p 2045 (rw t at e) in
    test (eqb p idle_zone) (λ u. idles (eqb-true p idle_zone u)) (λ u. starts_none (omega (arith, eqb-false p idle_zone u))))
    (λ t. offset (leb-false s.zone p t))

pub accepted : (s : Settings) (f : List ℕ) → first (frame_rows s f) ≡ 0 → Accepted s f
unfolding frame_rows frame_length unused
accepted s f e =
    let sound = sound_frame (packet_shape s) f e in
    record { right-length = sound.length-right; pointed = which_pointer s f sound.header.pointer_used }

-- its header says what stands in it, where the settings are in range
pub accepted_heading : (s : Settings) (f : List ℕ) → in_range s ≡ true → first (frame_rows s f) ≡ 0
    → heading s f ≡ record { refusal = 0; count = count s f; replay = replay s f; pointer = pointer s f }
unfolding heading heading_rows heading_of first
accepted_heading s f ok e = rw (ok, e) refl

pub heading_refusal : (s : Settings) (f : List ℕ) → (heading s f).refusal ≡ first (heading_rows s f)
unfolding heading heading_of
heading_refusal s f = refusal_kept (λ (h : Heading). h.refusal) (first (heading_rows s f)) _ _ refl refl

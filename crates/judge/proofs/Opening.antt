-- A first frame, entered in step from the count before its own, is entered as the judge's start asks.
-- Assumes nothing.
use mathlib.Core.Path.{◌≡◌, refl, ap, ◌∙◌}
use mathlib.Core.List.{List}
use mathlib.Core.Bool.{true}
use Prim.Native.Nat.{ℕ, ◌^◌}
use lib.Dec.{eqb}
use borrow.Author.Tests.{eqb-true, lt-ltb}
use Rattle.octets.specs.Basics.{first}
use Rattle.octets.proofs.Tests.{test}
use Rattle.frames.specs.Frame.{in_range, frame_rows, count, heading}
use Rattle.frames.specs.Link.{primary, count_width}
use Rattle.frames.specs.Shape.{Heading}
use Rattle.frames.specs.declared.Settings.{Settings}
use Rattle.frames.proofs.Accepted.{accepted_heading}
use Rattle.frames.proofs.Wheel.{count_before, before_on_wheel, count_lt, follows_before}
use Rattle.extractor.specs.Extract.{lost_since, reason_of, damage_of, step_of, take_in}
use Rattle.extractor.specs.Records.{on_wheel, stands_for, enter}
use Rattle.extractor.specs.declared.Extractor.{Extractor}
use Rattle.extractor.specs.declared.Extractor.TheVariants.{InStep}
use Rattle.judge.specs.Judge.{opened, faulty_entry}
use Rattle.judge.specs.Calls.{try_frame}
use Rattle.judge.proofs.Faults.{refused_faulty}

-- the record that a first frame is entered from
abbrev pub ready : Settings → ℕ → Extractor
ready s c = InStep (count_before (count_width s.link) c) 0

pub ready_on_wheel : (s : Settings) (c : ℕ) → on_wheel s (count_before (count_width s.link) c) ≡ true
ready_on_wheel s c = lt-ltb (count_before (count_width s.link) c) (2 ^ count_width s.link) (before_on_wheel (count_width s.link) c)

module _ (s : Settings) (store f : List ℕ) where
  pub says_as_opened : take_in s (stands_for store (ready s (count s f))) f ≡ take_in s opened f
  unfolding stands_for take_in step_of reason_of damage_of lost_since
  says_as_opened = rw (follows_before (count_width s.link) (count s f) (count_lt s.link (primary s.link f))) refl

  enters_as_opened : enter s (stands_for store (ready s (count s f))) f ≡ enter s opened f
  unfolding stands_for enter step_of reason_of lost_since
  enters_as_opened = rw (follows_before (count_width s.link) (count s f) (count_lt s.link (primary s.link f))) refl

  pub well_opened : try_frame s 0 (stands_for store (ready s (count s f))) store f ≡ try_frame s 0 opened store f
  unfolding try_frame faulty_entry
  well_opened = rw (says_as_opened, enters_as_opened) refl

  -- so a first frame is tried as any other; where it is refused, the record does not matter
  pub opened_tried : in_range s ≡ true → try_frame s 0 (stands_for store (ready s (heading s f).count)) store f ≡ try_frame s 0 opened store f
  unfolding try_frame
  opened_tried ok =
      test (eqb (first (frame_rows s f)) 0)
      (λ t.
      let its-heading = accepted_heading s f ok (eqb-true (first (frame_rows s f)) 0 t) in
      ap (λ (h : Heading). try_frame s 0 (stands_for store (ready s h.count)) store f) its-heading ∙ well_opened)
      (λ t. rw (refused_faulty s (stands_for store (ready s (heading s f).count)) f t, refused_faulty s opened f t) refl)

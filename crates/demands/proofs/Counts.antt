-- The counts that the calls tell are those of the headers.
-- Assumes nothing.
use mathlib.Core.Path.{◌≡◌, refl, sym, ◌∙◌}
use mathlib.Core.Logic.Iff
use mathlib.Core.List.{List}
use mathlib.Core.Option.{some}
use mathlib.Core.Bool.{Bool, true}
use Prim.Native.Nat.{ℕ}
use lib.Dec.{eqb}
use lib.ListN.{length}
use borrow.Author.Tests.{eq-eqb, not-false}
use Rattle.octets.specs.Basics.{first}
use Rattle.octets.proofs.Choices.{none_holds, refusal_kept}
use Rattle.octets.proofs.Tests.{test}
use Rattle.frames.specs.Frame.{idle_zone, no_start, count, replay, pointer, heading}
use Rattle.frames.specs.BitFrame.{bits_in_range, bit_frame_rows, bit_heading_rows, bit_count, bit_replay, bit_heading}
use Rattle.frames.specs.Shape.{heading_of}
use Rattle.frames.specs.declared.Settings.{Settings}
use Rattle.frames.specs.declared.bits.BitSettings.{BitSettings}
use Rattle.frames.proofs.Accepted.{accepted_heading}
use Rattle.extractor.specs.Extract.{Step, in_step, astray, lost_since, take_in, step_of}
use Rattle.extractor.specs.Records.{last_count, stands_for, set_off, set_out, enter, enter_rows}
use Rattle.extractor.specs.Answers.{EnterSaid, entered_as, enter_answer}
use Rattle.extractor.specs.declared.Extractor.{Extractor}
use Rattle.bitstream.specs.Bitstream.{Wrote, write_rows, written, read_rows, Reading, reading}
use Rattle.bitstream.specs.declared.Writer.{Writer}
use Rattle.bitstream.specs.declared.Reader.{Reader}
use Rattle.carries.specs.Carries.{Rising}
use Rattle.demands.specs.Counts.{Entered, BitsWritten, BitsRead, Rises, CountsTold}

-- wherever a walk sets out, the frame's count is the last
sets_off : (s : Settings) (c p h : ℕ) (inside : Bool) → last_count (set_off s c p inside h) ≡ some c
unfolding set_off
sets_off s c p h inside =
    test (eqb p idle_zone) (λ t. rw t refl) (λ t. test inside (λ u. rw (t, u) refl) (λ u. test (eqb p no_start) (λ v. rw (t, u, v) refl) (λ v. rw (t, u, v) refl)))

sets_out : (s : Settings) (c p : ℕ) (st : Step) → last_count (set_out s c p st) ≡ some c
sets_out s c p astray = sets_off s c p 0 _
sets_out s c p (in_step held) = sets_off s c p _ _

module _ (s : Settings) (x : Extractor) (store f : List ℕ) (taken : (enter_answer s x store f).answer.refusal ≡ 0) where
  unrefused : first (enter_rows s x store f) ≡ 0
  unfolding enter_answer
  unrefused = sym (refusal_kept (λ (a : EnterSaid). a.answer.refusal) (first (enter_rows s x store f)) _ _ refl refl) ∙ taken

  says : enter_answer s x store f ≡ entered_as s x store f
  unfolding enter_answer
  says = rw (eq-eqb _ _ unrefused) refl

  headed : heading s f ≡ record { refusal = 0; count = count s f; replay = replay s f; pointer = pointer s f }
  unfolding enter_rows
  headed =
      let range = none_holds 0 _ _ unrefused in
      let room = none_holds 1 _ _ range.1 in
      let reach = none_holds 9 _ _ room.1 in
      let moment = none_holds 8 _ _ reach.1 in
      accepted_heading s f (not-false _ range.0) moment.1

  entered : Entered s x store f
  unfolding take_in lost_since stands_for enter
  entered = record {
    count = rw (says, headed) refl;
    replay = rw (says, headed) refl;
    first = λ fresh. rw (says, fresh) refl;
    lost = λ last known. rw (says, headed, known) refl;
    goes_on = rw (says, headed) (sets_out s (count s f) (pointer s f) (step_of s (stands_for store x) f));
  }

module _ (s : BitSettings) (x : Reader) (f : List ℕ) (taken : (reading s x f).refusal ≡ 0) where
  bits_unrefused : first (read_rows s x f) ≡ 0
  unfolding reading
  bits_unrefused = sym (refusal_kept (λ (a : Reading). a.refusal) (first (read_rows s x f)) _ _ refl refl) ∙ taken

  bits_accepted : (bits_in_range s ≡ true) × (first (bit_frame_rows s f) ≡ 0)
  unfolding read_rows
  bits_accepted =
      let range = none_holds 0 _ _ bits_unrefused in
      let reach = none_holds 9 _ _ range.1 in
      (not-false _ range.0, reach.1)

  bits_headed : ((bit_heading s f).count ≡ bit_count s f) × ((bit_heading s f).replay ≡ bit_replay s f)
  unfolding bit_heading bit_heading_rows heading_of first
  bits_headed = (rw (bits_accepted.0, bits_accepted.1) refl, rw (bits_accepted.0, bits_accepted.1) refl)

  bits_read : BitsRead s x f
  unfolding reading
  bits_read = record {
    count = rw (eq-eqb _ _ bits_unrefused) (sym bits_headed.0);
    replay = rw (eq-eqb _ _ bits_unrefused) (sym bits_headed.1);
  }

bits_written : (s : BitSettings) (w : Writer) (bits : List ℕ) (n : ℕ) (buffer : List ℕ) → (written s w bits n buffer).said.refusal ≡ 0
    → BitsWritten s w bits n buffer
unfolding written
bits_written s w bits n buffer taken =
    let rows : ℕ = first (write_rows s w n (length bits) (length buffer)) in
    let kept : (written s w bits n buffer).said.refusal ≡ rows = refusal_kept (λ (a : Wrote). a.said.refusal) rows _ _ refl refl in
    record { goes_on = rw (eq-eqb rows 0 (sym kept ∙ taken)) refl }

rises : Rises
unfolding Rising
rises = record { none = λ s. tt; one = λ s f. tt; more = λ s f g fs. Iff.rfl }

pub counts_told : CountsTold
counts_told = record { entered = entered; bits_written = bits_written; rises = rises; bits_read = bits_read }

-- A run of C calls that read bits is the library's run, and so says what the rule over the whole run gives.
-- Assumes nothing.
use mathlib.Core.Path.{◌≡◌, refl, sym, ap, ◌∙◌}
use mathlib.Core.List.{List, [], ◌∷◌}
use mathlib.Core.Bool.{true}
use Prim.Native.Nat.{ℕ, ◌≤◌, ◌<◌, ◌^◌}
use native.Mathlib.Omega.{arith}
use lib.ListN.{length}
use lib.Dec.{eqb}
use borrow.Author.Tests.{ltb-true, le-ltb, eqb-true, eqb-false}
use Rattle.octets.proofs.Tests.{test}
use Rattle.frames.specs.Link.{count_width}
use Rattle.frames.proofs.Wheel.{wheel_in_word}
use Rattle.frames.specs.declared.bits.BitSettings.{BitSettings}
use Rattle.bitstream.specs.Bitstream.{reader_reachable, Reading, reading}
use Rattle.bitstream.specs.Loss.{BitsSaid}
use Rattle.bitstream.specs.Statements.{as_said, run_read}
use Rattle.bitstream.specs.declared.Reader.{Reader}
use Rattle.bitstream.specs.declared.Reader.TheVariants.{Fresh, Last}
use Rattle.bitstream.proofs.Answers.{read_refusal, read_refused}
use Rattle.bitstream.proofs.Readings.{readable}
use Rattle.bitstream.proofs.Reached.{reader_kept}
use Rattle.bitstream.proofs.Losses.{losses_wait}
use Rattle.arrays.specs.Arrays.{told, kept, bit}
use Rattle.exports.specs.Left.{Left, left}
use Rattle.exports.specs.Bits.{bit_settings_numbers, bit_settings_of, bits_short, reader_of, reader_numbers, read_numbers, read_leaves}
use Rattle.exports.specs.Statements.{ReaderWords}
use Rattle.exports.proofs.Theorems.{stated_again}
use Rattle.demands.specs.OverC.{LossesInC}
use Rattle.demands.specs.OverC.Reading.{reader_zeroed, read_unit, read_in_c}
use Rattle.demands.proofs.OverC.Arrays.{flag_back, told_front, told_long, kept_long}

-- a record that passes the test for refusal 10 has a count of 32 bits
reader_words : (s : BitSettings) (x : Reader) → reader_reachable s x ≡ true → ReaderWords x
unfolding reader_reachable
reader_words s Fresh e = tt
reader_words s (Last c waiting) e =
    let on : c < 2 ^ count_width s.link = ltb-true c (2 ^ count_width s.link) e in
    omega (arith, wheel_in_word s.link)

-- what a caller reads is what the answer says
unit_back : (s : BitSettings) (f : List ℕ) (a : Reading) (answer : List ℕ) → 6 ≤ length answer
    → read_unit a.refusal (told answer (read_numbers s f a)) ≡ as_said a
unfolding read_numbers
unit_back s f a answer h = rw (told_front answer (a.count ∷ a.replay ∷ bit a.lost ∷ a.bits ∷ _ ∷ _ ∷ []) h, flag_back a.lost) refl

module _ (settings : List ℕ) (stated : bit_settings_numbers ≤ length settings) where
  abbrev s : BitSettings
  s = bit_settings_of settings

  abbrev said : List ℕ → List ℕ → Reading
  said numbers f = reading s (reader_of numbers) f

  abbrev next : List ℕ → List ℕ → List ℕ
  next numbers f = kept (said numbers f).refusal numbers (reader_numbers (said numbers f).reader)

  module _ (numbers f : List ℕ) (long : 3 ≤ length numbers) where
    frame_left : (answer : List ℕ) → 6 ≤ length answer
        → read_leaves settings numbers f answer ≡ left (said numbers f).refusal (next numbers f) [] (told answer (read_numbers s f (said numbers f)))
    unfolding read_leaves bits_short
    frame_left answer h = rw (le-ltb _ _ stated, le-ltb _ _ long, le-ltb _ _ h) refl

    states_next : reader_of (next numbers f) ≡ (said numbers f).reader
    states_next =
        let x : Reader = reader_of numbers in
        let by_rows = read_refusal s x f in
        test (eqb (said numbers f).refusal 0)
        (λ t.
        let clear = readable s x f (sym by_rows ∙ eqb-true (said numbers f).refusal 0 t) in
        rw t ((stated_again numbers).reader (said numbers f).reader long (reader_words s (said numbers f).reader (reader_kept s x f clear.reached))))
        (λ t. rw t (ap (λ (a : Reading). a.reader) (read_refused s x f (said numbers f).refusal by_rows (eqb-false (said numbers f).refusal 0 t))))

    long_next : 3 ≤ length (next numbers f)
    long_next = rw (kept_long (said numbers f).refusal numbers (reader_numbers (said numbers f).reader)) long

  -- what a call left is lent with the other frames
  abbrev before : Left → List (List ℕ) → List BitsSaid
  before l fs = read_unit l.refusal l.answer ∷ read_in_c settings l.numbers l.answer fs

  all_read : (fs : List (List ℕ)) (numbers answer : List ℕ) → 3 ≤ length numbers → 6 ≤ length answer
      → read_in_c settings numbers answer fs ≡ (run_read s (reader_of numbers) fs).said
  unfolding read_in_c run_read
  all_read [] numbers answer long h = refl
  all_read (f ∷ fs) numbers answer long h =
      let a : Reading = said numbers f in
      let answer' : List ℕ = told answer (read_numbers s f a) in
      let rest = all_read fs (next numbers f) answer' (long_next numbers f long) (rw (told_long answer (read_numbers s f a)) h) in
      ap (λ (l : Left). before l fs) (frame_left numbers f long answer h)
      ∙ ap (λ (u : BitsSaid). u ∷ read_in_c settings (next numbers f) answer' fs) (unit_back s f a answer h)
      ∙ ap (λ (us : List BitsSaid). as_said a ∷ us) (rest ∙ ap (λ (x : Reader). (run_read s x fs).said) (states_next numbers f long))

  -- from the start
  pub losses_in_c : LossesInC settings s
  unfolding reader_numbers
  losses_in_c array answer fs long h =
      all_read fs (reader_zeroed array) answer (rw (told_long array (0 ∷ 0 ∷ 0 ∷ [])) long) h
      ∙ ap (λ (x : Reader). (run_read s x fs).said) starts
      ∙ losses_wait.said s fs
    where
      starts : reader_of (reader_zeroed array) ≡ Fresh
      starts = (stated_again array).reader Fresh long tt

-- A multiplexer's run of C calls is the library's run.
-- Assumes nothing.
use mathlib.Core.Path.{◌≡◌, refl, ap, ◌∙◌}
use mathlib.Core.List.{List, [], ◌∷◌}
use mathlib.Core.Bool.{Bool, true, false}
use Prim.Native.Nat.{ℕ, zero, suc, ◌≤◌, ◌<◌, ◌^◌}
use native.Mathlib.Omega.{arith}
use lib.ListN.{length}
use lib.Dec.{ltb, eqb}
use borrow.Author.Tests.{eqb-true, ltb-true, le-ltb}
use Rattle.octets.specs.Basics.{pick, first}
use Rattle.octets.proofs.Choices.{and_true}
use Rattle.octets.proofs.Tests.{test}
use Rattle.frames.specs.Link.{count_width}
use Rattle.frames.proofs.Wheel.{wheel_in_word}
use Rattle.frames.specs.declared.Settings.{Settings}
use Rattle.multiplexer.specs.Multiplex.{begun, mux_reachable, idle_frame}
use Rattle.multiplexer.specs.Calls.{Call, to_put, to_flush, to_idle, call_rows, call, Answer, answer}
use Rattle.multiplexer.specs.declared.Mux.{Mux}
use Rattle.multiplexer.proofs.Putting.{call_reachable}
use Rattle.arrays.specs.Arrays.{told, kept, bit}
use Rattle.exports.specs.Left.{left}
use Rattle.exports.specs.Channel.{settings_numbers, settings_of}
use Rattle.exports.specs.Mux.{mux_of, mux_numbers, begin_leaves, put_numbers, flush_numbers, no_numbers, mux_leaves}
use Rattle.exports.specs.Statements.{Word}
use Rattle.exports.proofs.Theorems.{stated_again}
use Rattle.carries.specs.Careful.{Sending, after, until_taken, with_care, run_from, run}
use Rattle.demands.specs.OverC.Sending.{SendingInC, as_sending, says_full, says_taken, says_flushed, left_by, after_in_c, until_taken_in_c, with_care_in_c, run_from_in_c, run_in_c}
use Rattle.demands.specs.OverC.{Long}
use Rattle.demands.proofs.OverC.Arrays.{long_enough, told_front, told_long, kept_long}

-- a record that passes the test for refusal 10 has a count of 32 bits
mux_word : (s : Settings) (m : Mux) → mux_reachable s m ≡ true → Word m.count
unfolding mux_reachable
mux_word s m e =
    let wheel : ℕ = 2 ^ count_width s.link in
    let on : m.count < wheel = ltb-true m.count wheel (and_true (ltb m.count wheel) _ e).0 in
    omega (arith, wheel_in_word s.link)

-- ---- what one call leaves

module _ (s : Settings) (c : Call) (numbers frame : List ℕ) (long : 4 ≤ length numbers) where
  abbrev now : Answer
  now = answer s (mux_of numbers) c frame

  -- the record's array states the record that the library hands back
  states_next : mux_of (kept now.refusal numbers (mux_numbers now.mux)) ≡ now.mux
  unfolding answer
  states_next =
      let m : Mux = mux_of numbers in
      let n : ℕ = first (call_rows s m c (length frame)) in
      test (eqb n 0)
      (λ t.
      let a = call_reachable s m c frame (eqb-true n 0 t) in
      rw t ((stated_again numbers).mux (call s m c frame).mux long (mux_word s (call s m c frame).mux (rw t at a))))
      (λ t. rw (t, t) refl)

-- ---- what the caller reads

bit_back : (b : Bool) → eqb (bit b) 1 ≡ b
bit_back true = refl
bit_back false = refl

flag_back : (b : Bool) → eqb (pick {A = ℕ} b 2 1) 2 ≡ b
flag_back true = refl
flag_back false = refl

module _ (a : Answer) (array : List ℕ) where
  reads_full : 3 ≤ length array → says_full (told array (put_numbers a)) ≡ a.full
  unfolding put_numbers
  reads_full h = rw (told_front array (bit a.full ∷ bit a.taken ∷ a.damage ∷ []) h) (bit_back a.full)

  reads_taken : 3 ≤ length array → says_taken (told array (put_numbers a)) ≡ a.taken
  unfolding put_numbers
  reads_taken h = rw (told_front array (bit a.full ∷ bit a.taken ∷ a.damage ∷ []) h) (bit_back a.taken)

module _ (s : Settings) (m : Mux) (frame : List ℕ) where
  flush_said : (array : List ℕ) → 1 ≤ length array
      → says_flushed (told array (flush_numbers (answer s m to_flush frame))) ≡ (answer s m to_flush frame).full
  unfolding answer flush_numbers
  flush_said array h =
      test (eqb (first (call_rows s m to_flush (length frame))) 0)
      (λ t. rw (t, told_front array _ h) (flag_back (call s m to_flush frame).full))
      (λ t. rw (t, told_front array _ h) refl)

  idle_said : eqb (answer s m to_idle frame).refusal 0 ≡ (answer s m to_idle frame).full
  unfolding answer idle_frame
  idle_said =
      let n : ℕ = first (call_rows s m to_idle (length frame)) in
      test (eqb n 0) (λ t. rw t refl) (λ t. rw (t, t) refl)

-- ---- one call

-- the record's array and the answer's are long enough
abbrev Lent : SendingInC → Type 0
Lent x = Long x.numbers x.answer 3

-- the caller's arrays and buffers stand where the library's run stands
record Follows (x : SendingInC) (y : Sending) : Type 0 where
  same : as_sending x ≡ y
  long : Lent x

module _ (settings : List ℕ) (stated : settings_numbers ≤ length settings) (lend : ℕ → List ℕ) where
  abbrev s : Settings
  s = settings_of settings

  module _ (x : SendingInC) (c : Call) (long : 4 ≤ length x.numbers) where
    abbrev said : Answer
    said = answer s (mux_of x.numbers) c x.frame

    abbrev numbers_left : List ℕ
    numbers_left = kept said.refusal x.numbers (mux_numbers said.mux)

    left_so : (room : ℕ) (says : Answer → List ℕ) (array : List ℕ) → room ≤ length array
        → mux_leaves c room says settings x.numbers x.frame array ≡ left said.refusal numbers_left said.frame (told array (says said))
    unfolding mux_leaves
    left_so room says array h = rw (long_enough settings x.numbers array room stated long h) refl

    -- what was left, with the flag that the caller read, is where the library's run goes on
    goes_on : (array answer : List ℕ) (full : Bool) → full ≡ said.full → 3 ≤ length answer
        → Follows (left_by settings lend x (left said.refusal numbers_left said.frame array) answer full) (after s lend (as_sending x) c)
    goes_on array answer full e h = record {
      same =
          test said.full
          (λ t. rw (e, t, states_next s c x.numbers x.frame long) refl)
          (λ t. rw (e, t, states_next s c x.numbers x.frame long) refl);
      long = record { numbers = rw (kept_long said.refusal x.numbers (mux_numbers said.mux)) long; answers = h };
    }

  follows : (x : SendingInC) (c : Call) → Lent x → Follows (after_in_c settings lend x c) (after s lend (as_sending x) c)
  unfolding after_in_c
  follows x (to_put p) h =
      let a : Answer = answer s (mux_of x.numbers) (to_put p) x.frame in
      let array : List ℕ = told x.answer (put_numbers a) in
      rw (left_so x (to_put p) h.numbers 3 put_numbers x.answer h.answers)
      (goes_on x (to_put p) h.numbers array array (says_full array) (reads_full a x.answer h.answers)
      (rw (told_long x.answer (put_numbers a)) h.answers))
  follows x to_flush h =
      let a : Answer = answer s (mux_of x.numbers) to_flush x.frame in
      let array : List ℕ = told x.answer (flush_numbers a) in
      let some : 1 ≤ length x.answer = omega (arith, h.answers) in
      rw (left_so x to_flush h.numbers 1 flush_numbers x.answer some)
      (goes_on x to_flush h.numbers array array (says_flushed array) (flush_said s (mux_of x.numbers) x.frame x.answer some)
      (rw (told_long x.answer (flush_numbers a)) h.answers))
  follows x to_idle h =
      let a : Answer = answer s (mux_of x.numbers) to_idle x.frame in
      rw (left_so x to_idle h.numbers 0 no_numbers [] (omega arith))
      (goes_on x to_idle h.numbers (told [] []) x.answer (eqb a.refusal 0) (idle_said s (mux_of x.numbers) x.frame) h.answers)

  -- what a put's answer says of its packet
  says_it_is_taken : (x : SendingInC) (p : List ℕ) → Lent x
      → says_taken (after_in_c settings lend x (to_put p)).answer ≡ (answer s (mux_of x.numbers) (to_put p) x.frame).taken
  unfolding after_in_c
  says_it_is_taken x p h =
      rw (left_so x (to_put p) h.numbers 3 put_numbers x.answer h.answers)
      (reads_taken (answer s (mux_of x.numbers) (to_put p) x.frame) x.answer h.answers)

  -- ---- the run

  then : (f : SendingInC → SendingInC) (g : Sending → Sending) {x : SendingInC} {y : Sending}
      → ((z : SendingInC) → Lent z → Follows (f z) (g (as_sending z))) → Follows x y → Follows (f x) (g y)
  then f g {x} on r = rw (← r.same) (on x r.long)

  puts : (n : ℕ) (p : List ℕ) (x : SendingInC) → Lent x → Follows (until_taken_in_c n settings lend p x) (until_taken n s lend p (as_sending x))
  unfolding until_taken_in_c until_taken
  puts zero p x h = record { same = refl; long = h }
  puts (suc n) p x h =
      let one : Follows (after_in_c settings lend x (to_put p)) (after s lend (as_sending x) (to_put p)) = follows x (to_put p) h in
      let more : Follows (until_taken_in_c n settings lend p (after_in_c settings lend x (to_put p))) (until_taken n s lend p (after s lend (as_sending x) (to_put p)))
      = then (until_taken_in_c n settings lend p) (until_taken n s lend p) (puts n p) one in
      rw (says_it_is_taken x p h)
      (test (answer s (mux_of x.numbers) (to_put p) x.frame).taken (λ t. rw t one) (λ t. rw t more))

  orders : (x : SendingInC) (c : Call) → Lent x → Follows (with_care_in_c settings lend x c) (with_care s lend (as_sending x) c)
  unfolding with_care_in_c with_care
  orders x (to_put p) h = puts (length p) p x h
  orders x to_flush h = follows x to_flush h
  orders x to_idle h =
      then (λ z. after_in_c settings lend z to_idle) (λ z. after s lend z to_idle) (λ z. follows z to_idle) (follows x to_flush h)

  runs : (cs : List Call) (x : SendingInC) → Lent x → Follows (run_from_in_c settings lend x cs) (run_from s lend (as_sending x) cs)
  unfolding run_from_in_c run_from
  runs [] x h = follows x to_flush h
  runs (c ∷ cs) x h = then (λ z. run_from_in_c settings lend z cs) (λ z. run_from s lend z cs) (runs cs) (orders x c h)

-- what `itz_mux_begin` leaves
begins : (array : List ℕ) → 4 ≤ length array → begin_leaves array ≡ left 0 (told array (mux_numbers begun)) [] []
unfolding begin_leaves
begins array long = rw (le-ltb _ _ long) refl

pub sends_in_c : (settings : List ℕ) → settings_numbers ≤ length settings → (array answer : List ℕ) (lend : ℕ → List ℕ) (cs : List Call) → 4 ≤ length array
    → 3 ≤ length answer → as_sending (run_in_c settings array answer lend cs) ≡ run (settings_of settings) lend cs
sends_in_c settings stated array answer lend cs long room =
    let start : mux_of (told array (mux_numbers begun)) ≡ begun = (stated_again array).mux begun long (omega arith) in
    rw (begins array long)
    ((runs settings stated lend cs (record { numbers = told array (mux_numbers begun); answer = answer; frame = lend 0; written = []; refusals = [] })
    (record { numbers = rw (told_long array (mux_numbers begun)) long; answers = room })).same
    ∙ ap (λ (m : Mux). run_from (settings_of settings) lend (record { mux = m; frame = lend 0; written = []; refusals = [] }) cs) start)

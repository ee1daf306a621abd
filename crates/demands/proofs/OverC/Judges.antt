-- A judge's run of C calls is the library's run.
-- Assumes nothing.
use mathlib.Core.Path.{◌≡◌, refl, sym, ap, ◌∙◌}
use mathlib.Core.List.{List, [], ◌∷◌}
use mathlib.Core.Bool.{true}
use Prim.Native.Nat.{ℕ, ◌*◌, ◌≤◌, ◌<◌, ◌^◌}
use native.Mathlib.Omega.{arith}
use lib.ListN.{length}
use lib.Dec.{leb, ltb, eqb}
use borrow.Author.Tests.{leb-true, ltb-true, eqb-true, eqb-false}
use Rattle.octets.specs.Basics.{and, first}
use Rattle.octets.proofs.Choices.{and_true}
use Rattle.octets.proofs.Tests.{test}
use Rattle.frames.specs.Link.{count_width}
use Rattle.frames.proofs.Wheel.{wheel_in_word}
use Rattle.frames.specs.Frame.{most_frames}
use Rattle.frames.specs.declared.Settings.{Settings}
use Rattle.extractor.specs.Records.{on_wheel, reachable, holds_well}
use Rattle.judge.specs.Judge.{Verdict, pass, fault}
use Rattle.judge.specs.Calls.{counts_well, judge_reachable, JudgeSaid, Calling, judge_close, CloseSaid, close_rows, close_refused, close_says, closes_with, close_call, RunCalls, calls, run_by}
use Rattle.judge.specs.Statements.{Keeps}
use Rattle.judge.specs.declared.Judge.{Judge}
use Rattle.judge.specs.declared.Judge.TheVariants.{Open, Sound, Faulty}
use Rattle.arrays.specs.Arrays.{told, kept}
use Rattle.exports.specs.Left.{Left, left}
use Rattle.exports.specs.Channel.{settings_numbers, settings_of}
use Rattle.exports.specs.Judging.{judge_of, judge_numbers, judging_leaves, close_numbers, close_leaves}
use Rattle.exports.specs.Statements.{JudgeWords}
use Rattle.exports.proofs.Theorems.{stated_again}
use Rattle.demands.specs.OverC.Listening.{zeroed}
use Rattle.demands.specs.OverC.Judging.{JudgingInC, as_calls, calls_in_c, read_verdict, closes_in_c}
use Rattle.demands.proofs.OverC.Arrays.{long_enough, told_front, told_long, kept_long}

-- a record that passes the test for refusal 10 has numbers of 32 bits
judge_words : (s : Settings) (store : List ℕ) (j : Judge) → judge_reachable s store j ≡ true → JudgeWords j
unfolding judge_reachable reachable counts_well
judge_words s store Open e = tt
judge_words s store (Sound tally last held) e =
    let r = and_true (and (on_wheel s last) (holds_well s store held)) (and (leb 1 tally) (and (leb tally most_frames) (leb held (tally * s.zone)))) e in
    let on : last < 2 ^ count_width s.link = ltb-true last (2 ^ count_width s.link) (and_true (on_wheel s last) _ r.0).0 in
    let few : tally ≤ most_frames = leb-true tally most_frames (and_true (leb tally most_frames) _ (and_true (leb 1 tally) _ r.1).1).0 in
    (omega arith, omega (arith, wheel_in_word s.link))
judge_words s store (Faulty tally at) e =
    let inside : at < tally = ltb-true at tally (and_true (ltb at tally) _ e).0 in
    let few : tally ≤ most_frames = leb-true tally most_frames (and_true (ltb at tally) _ e).1 in
    (omega arith, omega arith)

-- what a caller reads is what the close says
abbrev ReadBack : List ℕ → CloseSaid → Type 0
ReadBack answer c = read_verdict c.refusal (told answer (close_numbers c)) ≡ c

verdict_back : (v : Verdict) (answer : List ℕ) → 2 ≤ length answer → ReadBack answer (close_says (closes_with v))
unfolding close_says closes_with close_numbers
verdict_back pass answer h = rw (told_front answer (1 ∷ 0 ∷ []) h) refl
verdict_back (fault k) answer h = rw (told_front answer (2 ∷ k ∷ []) h) refl

refused_back : (n : ℕ) (answer : List ℕ) → 2 ≤ length answer → ReadBack answer (close_refused n)
unfolding close_numbers
refused_back n answer h = rw (told_front answer (0 ∷ 0 ∷ []) h) refl

close_back : (s : Settings) (store : List ℕ) (j : Judge) (answer : List ℕ) → 2 ≤ length answer → ReadBack answer (close_call s store j)
unfolding close_call
close_back s store j answer h =
    let n : ℕ = first (close_rows s store j) in
    test (eqb n 0) (λ t. rw t (verdict_back (judge_close j) answer h)) (λ t. rw t (refused_back n answer h))

-- the run of C calls and the library's go on together
record Follows (r : JudgingInC) (q : RunCalls) : Type 0 where
  same : as_calls r ≡ q
  long : 4 ≤ length r.numbers

module _ (call : Calling) (keeps : Keeps call) (settings : List ℕ) (stated : settings_numbers ≤ length settings) where
  abbrev s : Settings
  s = settings_of settings

  -- what is said by a call, and the record's array after it
  abbrev said : List ℕ → List ℕ → List ℕ → JudgeSaid
  said numbers store f = call s store (judge_of numbers) f

  abbrev next : List ℕ → List ℕ → List ℕ → List ℕ
  next numbers store f = kept (said numbers store f).refusal numbers (judge_numbers (said numbers store f).next)

  module _ (numbers store f : List ℕ) (long : 4 ≤ length numbers) where
    call_left : judging_leaves call settings numbers store f
        ≡ left (said numbers store f).refusal (next numbers store f) (said numbers store f).store []
    unfolding judging_leaves
    call_left = rw (long_enough settings numbers [] 0 stated long (omega arith)) refl

    states_next : judge_of (next numbers store f) ≡ (said numbers store f).next
    states_next =
        let j : Judge = judge_of numbers in
        let a : JudgeSaid = call s store j f in
        test (eqb a.refusal 0)
        (λ t. rw t ((stated_again numbers).judge a.next long (judge_words s a.store a.next (keeps.reached s store j f (eqb-true a.refusal 0 t)))))
        (λ t. rw t (sym (ap (λ (b : JudgeSaid). b.next) (keeps.refused s store j f (eqb-false a.refusal 0 t)))))

    long_next : 4 ≤ length (next numbers store f)
    long_next = rw (kept_long (said numbers store f).refusal numbers (judge_numbers (said numbers store f).next)) long

  -- ---- the calls

  abbrev Judged : List (List ℕ) → Type 0
  Judged fs =
      (numbers store : List ℕ) → 4 ≤ length numbers
      → Follows (calls_in_c call settings numbers store fs) (calls call s store (judge_of numbers) fs)

  none_judged : Judged []
  unfolding calls_in_c calls
  none_judged numbers store long = record { same = refl; long = long }

  -- what a call left is lent with the others
  abbrev before : Left → List (List ℕ) → JudgingInC
  before l fs =
      let r : JudgingInC = calls_in_c call settings l.numbers l.octets fs in
      record { refusals = l.refusal ∷ r.refusals; numbers = r.numbers; store = r.store }

  one_before : (f : List ℕ) (fs : List (List ℕ)) (numbers store : List ℕ) → 4 ≤ length numbers
      → calls_in_c call settings numbers store (f ∷ fs)
      ≡ before (left (said numbers store f).refusal (next numbers store f) (said numbers store f).store []) fs
  unfolding calls_in_c
  one_before f fs numbers store long = ap (λ (l : Left). before l fs) (call_left numbers store f long)

  one_judged : (f : List ℕ) (fs : List (List ℕ)) → Judged fs → Judged (f ∷ fs)
  unfolding calls
  one_judged f fs on numbers store long =
      let a : JudgeSaid = said numbers store f in
      let rest = on (next numbers store f) a.store (long_next numbers store f long) in
      rw (one_before f fs numbers store long)
      (record {
        same = ap (λ (r : RunCalls). record { refusals = a.refusal ∷ r.refusals; next = r.next; store = r.store })
            (rest.same ∙ ap (λ (j : Judge). calls call s a.store j fs) (states_next numbers store f long));
        long = rest.long;
      })

  all_judged : (fs : List (List ℕ)) → Judged fs
  all_judged [] = none_judged
  all_judged (f ∷ fs) = one_judged f fs (all_judged fs)

  -- ---- the close

  closes : (numbers store answer : List ℕ) → 4 ≤ length numbers → 2 ≤ length answer
      → (let l : Left = close_leaves settings numbers store answer in read_verdict l.refusal l.answer) ≡ close_call s store (judge_of numbers)
  unfolding close_leaves
  closes numbers store answer long h = rw (long_enough settings numbers answer 2 stated long h) (close_back s store (judge_of numbers) answer h)

  -- ---- from the start

  module _ (array store : List ℕ) (long : 4 ≤ length array) (fs : List (List ℕ)) where
    opens : judge_of (zeroed array) ≡ Open
    unfolding judge_numbers
    opens = (stated_again array).judge Open long tt

    run_follows : Follows (calls_in_c call settings (zeroed array) store fs) (calls call s store Open fs)
    run_follows = rw (← opens) (all_judged fs (zeroed array) store (rw (told_long array (0 ∷ 0 ∷ 0 ∷ 0 ∷ [])) long))

    pub judged_in_c : as_calls (calls_in_c call settings (zeroed array) store fs) ≡ calls call s store Open fs
    judged_in_c = run_follows.same

    pub closed_in_c : (answer : List ℕ) → 2 ≤ length answer → closes_in_c call settings array store answer fs ≡ run_by call s store fs
    closed_in_c answer h =
        let r : JudgingInC = calls_in_c call settings (zeroed array) store fs in
        closes r.numbers r.store answer run_follows.long h
        ∙ ap (λ (q : RunCalls). close_call s q.store q.next) judged_in_c

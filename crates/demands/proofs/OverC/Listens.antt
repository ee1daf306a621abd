-- An extractor's run of C calls is the library's run.
-- Assumes nothing.
use mathlib.Core.Path.{◌≡◌, refl, sym, ap, ◌∙◌, subst}
use mathlib.Core.List.{List, [], ◌∷◌, ◌++◌}
use mathlib.Core.Bool.{Bool, true, false}
use Prim.Native.Nat.{ℕ, zero, suc, ◌≤◌, ◌^◌}
use native.Mathlib.Omega.{arith}
use lib.ListN.{length}
use lib.Dec.{eqb}
use borrow.Author.Tests.{ltb-true, eqb-true, eq-eqb}
use Rattle.octets.specs.Basics.{pick, first}
use Rattle.octets.proofs.Choices.{and_true}
use Rattle.octets.proofs.Tests.{test}
use Rattle.frames.specs.Link.{count_width}
use Rattle.frames.proofs.Wheel.{wheel_in_word}
use Rattle.frames.specs.declared.Settings.{Settings}
use Rattle.extractor.specs.Extract.{refused, taken}
use Rattle.extractor.specs.Records.{on_wheel, reachable, stands_for, enter, enter_rows, step_rows, Stepped, step, step_call, shown}
use Rattle.extractor.specs.Answers.{EnterNumbers, EnterSaid, enter_answer, StepNumbers, found_numbers, step_answer}
use Rattle.extractor.specs.Calls.{event_at, Finds, goes_on, one_more, none_left, steps, all_said, tells, listen}
use Rattle.extractor.specs.declared.Extractor.{Extractor}
use Rattle.extractor.specs.declared.Extractor.TheVariants.{Fresh, Astray, InStep, Walking, Leaving}
use Rattle.extractor.specs.Found.{Found, Refused, InFrame, InStore, Damaged, Spent}
use Rattle.extractor.proofs.Theorems.{keeps_to_the_test}
use Rattle.extractor.proofs.Turns.{Packed, framed, stored, Turn, leave, keep, break, give, turn}
use Rattle.extractor.proofs.Unrefused.{moves}
use Rattle.arrays.specs.Arrays.{told, kept}
use Rattle.exports.specs.Left.{Left, left}
use Rattle.exports.specs.Channel.{settings_numbers, settings_of}
use Rattle.exports.specs.Extract.{extractor_of, extractor_numbers, enter_numbers, enter_leaves, step_numbers, step_leaves}
use Rattle.exports.specs.Statements.{ExtractorWords}
use Rattle.exports.proofs.Theorems.{stated_again}
use Rattle.demands.specs.Demand3.{Smooth, SmoothRun}
use Rattle.demands.specs.OverC.Listening.{Holding, holding, zeroed, read_entry, read_step, octets_named, Inside, SteppingInC, as_finds, no_steps, steps_in_c, FrameInC, frame_in_c, says_of, ListeningInC, as_listened, listen_in_c}
use Rattle.demands.specs.OverC.{Long, SmoothInC}
use Rattle.demands.proofs.OverC.Arrays.{long_enough, told_front, told_long, kept_long}
use Rattle.demands.proofs.OverC.Names.{step_within, named_shown, named_inside}

-- ---- what a caller reads

entry_back : (n : EnterNumbers) (answer : List ℕ) → 7 ≤ length answer → read_entry n.refusal (told answer (enter_numbers n)) ≡ n
unfolding enter_numbers
entry_back n answer h =
    rw (told_front answer (n.outcome ∷ n.count ∷ n.replay ∷ n.lost ∷ n.dropped ∷ n.reason ∷ n.damage ∷ []) h) refl

step_back : (f store : List ℕ) (a : Found) (answer : List ℕ) → 5 ≤ length answer
    → read_step (found_numbers f store a).refusal (told answer (step_numbers (found_numbers f store a))) ≡ a
unfolding found_numbers step_numbers read_step
step_back f store (Refused n) answer h = rw (told_front answer (0 ∷ 0 ∷ 0 ∷ 0 ∷ 0 ∷ []) h) refl
step_back f store (InFrame start size true) answer h = rw (told_front answer (2 ∷ 1 ∷ start ∷ size ∷ 0 ∷ []) h) refl
step_back f store (InFrame start size false) answer h = rw (told_front answer (1 ∷ 1 ∷ start ∷ size ∷ 0 ∷ []) h) refl
step_back f store (InStore size true) answer h = rw (told_front answer (2 ∷ 2 ∷ 0 ∷ size ∷ 0 ∷ []) h) refl
step_back f store (InStore size false) answer h = rw (told_front answer (1 ∷ 2 ∷ 0 ∷ size ∷ 0 ∷ []) h) refl
step_back f store (Damaged d) answer h = rw (told_front answer (3 ∷ 0 ∷ 0 ∷ 0 ∷ d ∷ []) h) refl
step_back f store Spent answer h = rw (told_front answer (4 ∷ 0 ∷ 0 ∷ 0 ∷ 0 ∷ []) h) refl

-- ---- what a record's array states

-- a record that passes the test for refusal 10 has a count of 32 bits
count_word : (s : Settings) (last : ℕ) → on_wheel s last ≡ true → last ≤ 4294967295
count_word s last e = omega (arith, ltb-true last (2 ^ count_width s.link) e, wheel_in_word s.link)

extractor_words : (s : Settings) (store : List ℕ) (x : Extractor) → reachable s store x ≡ true → ExtractorWords x
unfolding reachable
extractor_words s store Fresh e = tt
extractor_words s store (Astray last) e = count_word s last e
extractor_words s store (InStep last held) e = count_word s last (and_true (on_wheel s last) _ e).0
extractor_words s store (Walking last held at) e = count_word s last (and_true (on_wheel s last) _ e).0
extractor_words s store (Leaving last) e = count_word s last e

-- a step that no row refuses finds no refusal
packed_unrefused : (f store : List ℕ) (a : Found) (idle : Bool) → Packed a idle → (found_numbers f store a).refusal ≡ 0
unfolding found_numbers
packed_unrefused f store a idle framed = refl
packed_unrefused f store a idle stored = refl

turn_unrefused : (s : Settings) (f store : List ℕ) {x : Extractor} {w : Stepped} → Turn s f store x w → (g os : List ℕ) → (found_numbers g os w.found).refusal ≡ 0
unfolding found_numbers
turn_unrefused s f store leave g os = refl
turn_unrefused s f store (keep b l) g os = refl
turn_unrefused s f store (break d l) g os = refl
turn_unrefused s f store (give {a = a} p l e sh d i n k m) g os = packed_unrefused g os a _ p

module _ (s : Settings) (numbers store f : List ℕ) (long : 4 ≤ length numbers) where
  abbrev x : Extractor
  x = extractor_of numbers

  abbrev entering : EnterSaid
  entering = enter_answer s x store f

  states_entered : extractor_of (kept entering.answer.refusal numbers (extractor_numbers entering.next)) ≡ entering.next
  unfolding enter_answer
  states_entered =
      let n : ℕ = first (enter_rows s x store f) in
      test (eqb n 0)
      (λ t.
      let a = keeps_to_the_test.entering s x store f (eqb-true n 0 t) in
      rw t ((stated_again numbers).extractor (enter s (stands_for store x) f) long (extractor_words s store _ (rw t at a))))
      (λ t. rw (t, t) refl)

  abbrev stepping : Stepped
  stepping = step_call s x store f

  states_stepped : extractor_of (kept (found_numbers f stepping.store stepping.found).refusal numbers (extractor_numbers stepping.next)) ≡ stepping.next
  unfolding step_call found_numbers
  states_stepped =
      let n : ℕ = first (step_rows s x store f) in
      test (eqb n 0)
      (λ t.
      let e : n ≡ 0 = eqb-true n 0 t in
      let m = moves s x store f e in
      let a = keeps_to_the_test.stepping s x store f e in
      let none = turn_unrefused s f store (turn s f store m.ranged m.framed m.room x m.reached m.underway) f (step s f store x).store in
      rw (t, none) ((stated_again numbers).extractor (step s f store x).next long (extractor_words s (step s f store x).store _ (rw t at a))))
      (λ t. rw (t, t) refl)

-- ---- a frame's steps

-- the record's array and the answer's are long enough
abbrev Lent : Holding → Type 0
Lent h = Long h.numbers h.answer 7

-- the steps of a C caller and the library's go on together
record Follows (t : SteppingInC) (q : Finds) : Type 0 where
  same : as_finds t ≡ q
  long : Lent t.held

module _ (settings : List ℕ) (stated : settings_numbers ≤ length settings) where
  abbrev s : Settings
  s = settings_of settings

  abbrev of : Holding → Extractor
  of h = extractor_of h.numbers

  abbrev stepped_now : List ℕ → Holding → Stepped
  stepped_now f h = step_call s (of h) h.store f

  abbrev said_now : List ℕ → Holding → StepNumbers
  said_now f h = found_numbers f (stepped_now f h).store (stepped_now f h).found

  stepped_numbers : List ℕ → Holding → List ℕ
  stepped_numbers f h = kept (said_now f h).refusal h.numbers (extractor_numbers (stepped_now f h).next)

  abbrev after_step : List ℕ → Holding → Holding
  after_step f h = holding (stepped_numbers f h) (stepped_now f h).store (told h.answer (step_numbers (said_now f h)))

  long_stepped : (f : List ℕ) (h : Holding) → Lent h → Lent (after_step f h)
  unfolding stepped_numbers
  long_stepped f h l = record {
    numbers = rw (kept_long (said_now f h).refusal h.numbers (extractor_numbers (stepped_now f h).next)) l.numbers;
    answers = rw (told_long h.answer (step_numbers (said_now f h))) l.answers;
  }

  stepped_alike : (f : List ℕ) (h : Holding) → Lent h → (stepped_now f h).next ≡ extractor_of (stepped_numbers f h)
  unfolding stepped_numbers
  stepped_alike f h l = sym (states_stepped s h.numbers h.store f l.numbers)

  step_left : (f : List ℕ) (h : Holding) → Lent h
      → step_leaves settings h.numbers h.store f h.answer
      ≡ left (said_now f h).refusal (stepped_numbers f h) (stepped_now f h).store (after_step f h).answer
  unfolding stepped_numbers step_leaves step_answer
  step_left f h l = rw (long_enough settings h.numbers h.answer 5 stated l.numbers (omega (arith, l.answers))) refl

  -- the steps after one that found this
  abbrev rest_of : ℕ → List ℕ → Found → Holding → SteppingInC
  rest_of n f found h = pick (goes_on found) (steps_in_c settings f n h) (no_steps h)

  abbrev rest_from : ℕ → List ℕ → Found → Extractor → List ℕ → Finds
  rest_from n f found x store = pick (goes_on found) (steps s f n x store) (none_left x store)

  abbrev onward : ℕ → List ℕ → Found → List ℕ → Holding → SteppingInC
  onward n f found part h = record {
    found = found ∷ (rest_of n f found h).found;
    events = event_at found part ++ (rest_of n f found h).events;
    held = (rest_of n f found h).held;
  }

  one_step : (n : ℕ) (f : List ℕ) (h : Holding) → Lent h
      → steps_in_c settings f (suc n) h
      ≡ onward n f (stepped_now f h).found (shown f (stepped_now f h).store (stepped_now f h).found) (after_step f h)
  unfolding steps_in_c
  one_step n f h l =
      let w : Stepped = stepped_now f h in
      let room : 5 ≤ length h.answer = omega (arith, l.answers) in
      let array : List ℕ = told h.answer (step_numbers (said_now f h)) in
      ap (λ (m : Left). onward n f (read_step m.refusal m.answer) (octets_named f m.octets m.answer) (holding m.numbers m.octets m.answer))
      (step_left f h l)
      ∙ ap (λ (a : Found). onward n f a (octets_named f w.store array) (after_step f h)) (step_back f w.store w.found h.answer room)
      ∙ ap (λ (part : List ℕ). onward n f w.found part (after_step f h))
      (named_shown f w.store h.answer room w.found (step_within s (of h) h.store f))

  pub names_inside : (f : List ℕ) (numbers store answer : List ℕ) → Long numbers answer 5
      → (let m : Left = step_leaves settings numbers store f answer in Inside f m.octets m.answer)
  unfolding step_leaves step_answer
  names_inside f numbers store answer l =
      let w : Stepped = step_call s (extractor_of numbers) store f in
      rw (long_enough settings numbers answer 5 stated l.numbers l.answers)
      (named_inside f w.store answer l.answers w.found (step_within s (extractor_of numbers) store f))

  abbrev Stepped_alike : ℕ → Type 0
  Stepped_alike n = (f : List ℕ) (h : Holding) → Lent h → Follows (steps_in_c settings f n h) (steps s f n (of h) h.store)

  no_step : Stepped_alike zero
  unfolding steps_in_c steps
  no_step f h l = record { same = refl; long = l }

  more_steps : (n : ℕ) → Stepped_alike n → Stepped_alike (suc n)
  unfolding steps
  more_steps n on f h l =
      let w : Stepped = stepped_now f h in
      let after : Holding = after_step f h in
      let rest : Follows (rest_of n f w.found after) (rest_from n f w.found w.next w.store) =
      test (goes_on w.found)
      (λ t. rw (t, stepped_alike f h l) (on f after (long_stepped f h l)))
      (λ t. rw (t, stepped_alike f h l) (record { same = refl; long = long_stepped f h l })) in
      rw (one_step n f h l) (record { same = ap (one_more f w) rest.same; long = rest.long })

  all_steps : (n : ℕ) → Stepped_alike n
  all_steps zero = no_step
  all_steps (suc n) = more_steps n (all_steps n)

  -- ---- a frame

  abbrev entered_now : List ℕ → Holding → EnterSaid
  entered_now f h = enter_answer s (of h) h.store f

  entered_numbers : List ℕ → Holding → List ℕ
  entered_numbers f h = kept (entered_now f h).answer.refusal h.numbers (extractor_numbers (entered_now f h).next)

  abbrev after_entering : List ℕ → Holding → Holding
  after_entering f h = holding (entered_numbers f h) h.store (told h.answer (enter_numbers (entered_now f h).answer))

  long_entered : (f : List ℕ) (h : Holding) → Lent h → Lent (after_entering f h)
  unfolding entered_numbers
  long_entered f h l = record {
    numbers = rw (kept_long (entered_now f h).answer.refusal h.numbers (extractor_numbers (entered_now f h).next)) l.numbers;
    answers = rw (told_long h.answer (enter_numbers (entered_now f h).answer)) l.answers;
  }

  entered_alike : (f : List ℕ) (h : Holding) → Lent h → (entered_now f h).next ≡ extractor_of (entered_numbers f h)
  unfolding entered_numbers
  entered_alike f h l = sym (states_entered s h.numbers h.store f l.numbers)

  enter_left : (f : List ℕ) (h : Holding) → Lent h
      → enter_leaves settings h.numbers h.store f h.answer
      ≡ left (entered_now f h).answer.refusal (entered_numbers f h) [] (after_entering f h).answer
  unfolding entered_numbers enter_leaves
  enter_left f h l = rw (long_enough settings h.numbers h.answer 7 stated l.numbers l.answers) refl

  abbrev through : List ℕ → EnterNumbers → Holding → FrameInC
  through f e h = record { entered = e; stepped = pick (eqb e.outcome 1) (steps_in_c settings f (suc s.zone) h) (no_steps h) }

  one_frame : (f : List ℕ) (h : Holding) → Lent h → frame_in_c settings h f ≡ through f (entered_now f h).answer (after_entering f h)
  unfolding frame_in_c
  one_frame f h l =
      ap (λ (m : Left). through f (read_entry m.refusal m.answer) (holding m.numbers h.store m.answer)) (enter_left f h l)
      ∙ ap (λ (e : EnterNumbers). through f e (after_entering f h)) (entry_back (entered_now f h).answer h.answer l.answers)

  -- a frame is entered where it is not refused
  entered_or_refused : (f : List ℕ) (h : Holding) → eqb (entered_now f h).answer.outcome 1 ≡ eqb (entered_now f h).answer.refusal 0
  unfolding enter_answer
  entered_or_refused f h = test (eqb (first (enter_rows s (of h) h.store f)) 0) (λ t. rw t refl) (λ t. rw (t, t) refl)

  steps_alike : (f : List ℕ) (h : Holding) → Lent h
      → Follows (steps_in_c settings f (suc s.zone) (after_entering f h)) (steps s f (suc s.zone) (entered_now f h).next h.store)
  steps_alike f h l = rw (entered_alike f h l) (all_steps (suc s.zone) f (after_entering f h) (long_entered f h l))

  -- ---- a run

  abbrev Listened_alike : List (List ℕ) → Type 0
  Listened_alike fs = (h : Holding) → Lent h → as_listened (listen_in_c settings h fs) ≡ listen s (of h) h.store fs

  abbrev go_on : FrameInC → List (List ℕ) → ListeningInC
  go_on w fs = record { told = says_of w ∷ (listen_in_c settings w.stepped.held fs).told; held = (listen_in_c settings w.stepped.held fs).held }

  none_heard : Listened_alike []
  unfolding listen_in_c listen
  none_heard h l = refl

  heard_one : (f : List ℕ) (fs : List (List ℕ)) (h : Holding) → Lent h
      → listen_in_c settings h (f ∷ fs) ≡ go_on (through f (entered_now f h).answer (after_entering f h)) fs
  unfolding listen_in_c
  heard_one f fs h l = ap (λ (w : FrameInC). go_on w fs) (one_frame f h l)

  one_heard : (f : List ℕ) (fs : List (List ℕ)) → Listened_alike fs → Listened_alike (f ∷ fs)
  unfolding listen
  one_heard f fs on h l =
      let e : EnterSaid = entered_now f h in
      let t : SteppingInC = steps_in_c settings f (suc s.zone) (after_entering f h) in
      let q : Finds = steps s f (suc s.zone) e.next h.store in
      let r : Follows t q = steps_alike f h l in
      rw (heard_one f fs h l, entered_or_refused f h)
      (test (eqb e.answer.refusal 0)
      (λ y. rw y
      (ap (λ (u : Finds). tells (taken (all_said e.answer u)) (as_listened (listen_in_c settings t.held fs))) r.same
      ∙ ap (tells (taken (all_said e.answer q))) (on t.held r.long ∙ ap (λ (u : Finds). listen s u.next u.store fs) r.same)))
      (λ y. rw y
      (ap (tells (refused e.answer.refusal))
      (on (after_entering f h) (long_entered f h l) ∙ ap (λ (x : Extractor). listen s x h.store fs) (sym (entered_alike f h l))))))

  all_heard : (fs : List (List ℕ)) → Listened_alike fs
  all_heard [] = none_heard
  all_heard (f ∷ fs) = one_heard f fs (all_heard fs)

  -- ---- all goes well with a run

  abbrev Smooth_alike : List (List ℕ) → Type 0
  Smooth_alike fs = (h : Holding) → Lent h → SmoothRun s (of h) h.store fs → SmoothInC settings h fs

  none_smooth : Smooth_alike []
  unfolding SmoothInC
  none_smooth h l r = tt

  -- a frame that is not refused
  entered_so : (f : List ℕ) (h : Holding) → Lent h → (entered_now f h).answer.refusal ≡ 0
      → frame_in_c settings h f ≡ record { entered = (entered_now f h).answer; stepped = steps_in_c settings f (suc s.zone) (after_entering f h) }
  entered_so f h l e =
      one_frame f h l
      ∙ ap (λ (b : Bool). record {
        entered = (entered_now f h).answer;
        stepped = pick b (steps_in_c settings f (suc s.zone) (after_entering f h)) (no_steps (after_entering f h));
      }) (entered_or_refused f h ∙ eq-eqb _ 0 e)

  one_smooth : (f : List ℕ) (fs : List (List ℕ)) → Smooth_alike fs → Smooth_alike (f ∷ fs)
  unfolding SmoothRun SmoothInC
  one_smooth f fs on h l (one, rest) =
      let t : SteppingInC = steps_in_c settings f (suc s.zone) (after_entering f h) in
      let r = steps_alike f h l in
      rw (entered_so f h l one.accepted) (
        subst (Smooth (entered_now f h).answer) (sym r.same) one,
        on t.held r.long (subst (λ (q : Finds). SmoothRun s q.next q.store fs) (sym r.same) rest),
      )

  all_smooth : (fs : List (List ℕ)) → Smooth_alike fs
  all_smooth [] = none_smooth
  all_smooth (f ∷ fs) = one_smooth f fs (all_smooth fs)

  -- ---- from the start

  module _ (array store answer : List ℕ) (long : 4 ≤ length array) (room : 7 ≤ length answer) (fs : List (List ℕ)) where
    abbrev start : Holding
    start = holding (zeroed array) store answer

    starts_fresh : of start ≡ Fresh
    unfolding extractor_numbers
    starts_fresh = (stated_again array).extractor Fresh long tt

    start_long : Lent start
    start_long = record { numbers = rw (told_long array (0 ∷ 0 ∷ 0 ∷ 0 ∷ [])) long; answers = room }

    pub listens_in_c : as_listened (listen_in_c settings start fs) ≡ listen s Fresh store fs
    listens_in_c = all_heard fs start start_long ∙ ap (λ (x : Extractor). listen s x store fs) starts_fresh

    pub smooth_in_c : SmoothRun s Fresh store fs → SmoothInC settings start fs
    smooth_in_c r = all_smooth fs start start_long (rw starts_fresh r)

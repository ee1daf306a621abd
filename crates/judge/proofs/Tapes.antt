-- Tapes: their frames are judged as by single calls, however they are cut.
-- Assumes nothing.
use mathlib.Core.Path.{◌≡◌, refl, sym, ap, ap₂, ◌∙◌, subst}
use mathlib.Core.List.{List, [], ◌∷◌, ◌++◌, append-nil, append_assoc}
use mathlib.Core.Bool.{Bool, true, false, not}
use Prim.Native.Nat.{ℕ, zero, suc, ◌+◌, ◌*◌, ◌/◌, ◌%◌, ◌≤◌, ◌<◌}
use native.Mathlib.Nat.{zero-mul, zero-div, zero-mod, div_self, mod_self, mod-lt, div-add-mod', div-mul-le_self, div-eq_of_lt-le, mul-add-div_right, mul-add-mod_self_right}
use native.Mathlib.Omega.{arith}
use lib.ListN.{length, take, drop, length-append, length-drop, take-append-drop}
use lib.Seq.{take_all, take_at, drop_at, drop-drop}
use lib.Dec.{ltb, eqb}
use borrow.Author.Tests.{ltb-false, lt-ltb, le-ltb, eq-eqb, ne_eqb, eqb-true, eqb-false, not-false}
use Rattle.octets.specs.Basics.{pick, All, cut, first, row}
use Rattle.octets.proofs.Choices.{none_holds}
use Rattle.octets.proofs.Cuts.{cut_many, cut_each, cut_behind}
use Rattle.octets.proofs.Tests.{test}
use Rattle.packets.specs.Packet.{end_to_end}
use Rattle.frames.specs.Frame.{frame_length, Frames, most_frames}
use Rattle.frames.specs.declared.Settings.{Settings}
use Rattle.extractor.specs.Statements.{Fit}
use Rattle.judge.specs.Calls.{tally_of, judge_reachable, past_last, frame_refusals, close_rows, judging, judge_answers, Calling, frame_call, RunCalls, calls, left_by, judge_calls}
use Rattle.judge.specs.Tapes.{whole_frames, frames_in, tape_rows, tape_refusals, tape_call, tape_calls, CutInto}
use Rattle.judge.specs.Statements.{CutIntoFrames, LeaveTheSame, AsOne, TapesAreFrames}
use Rattle.judge.specs.declared.Judge.{Judge}
use Rattle.judge.proofs.Accepting.{Checks, checks, checked_close, checks_none}
use Rattle.judge.proofs.Advances.{tally_most, verdict_from}
use Rattle.judge.proofs.Answered.{numbered}
use Rattle.judge.proofs.Rows.{refused_close, accepted_close}
use Rattle.judge.proofs.Runs.{Ran, judge_ran}

-- ---- octets cut into frames

pub some_octets : (s : Settings) → 0 < frame_length s
unfolding frame_length
some_octets s = omega arith

-- parts end to end, and what lies behind them
parts_again : (n size : ℕ) (os : List ℕ) → n * size ≤ length os → end_to_end (cut n size os) ++ drop (n * size) os ≡ os
unfolding cut
parts_again zero size os h = rw (zero-mul size)
parts_again (suc n) size os h =
    let rest : List ℕ = drop size os in
    let e : suc n * size ≡ size + n * size = omega arith in
    rw (e, ← (drop-drop (n * size) size os))
    (append_assoc (take size os) (end_to_end (cut n size rest)) (drop (n * size) rest)
    ∙ ap (λ (l : List ℕ). take size os ++ l) (parts_again n size rest (rw length-drop (omega arith)))
    ∙ take-append-drop size os)

all_long : (size : ℕ) (fs : List (List ℕ)) → All (λ (f : List ℕ). length f ≡ size) fs → length (end_to_end fs) ≡ length fs * size
all_long size [] whole = sym (zero-mul size)
all_long size (f ∷ fs) whole = omega (arith, length-append f (end_to_end fs), whole.0, all_long size fs whole.1)

-- parts that lie end to end are cut into these parts
cut_again : (size : ℕ) (fs : List (List ℕ)) (other : List ℕ) → All (λ (f : List ℕ). length f ≡ size) fs
    → cut (length fs) size (end_to_end fs ++ other) ≡ fs
unfolding cut
cut_again size [] other whole = refl
cut_again size (f ∷ fs) other whole =
    rw (append_assoc f (end_to_end fs) other, take_at f (end_to_end fs ++ other) size whole.0, drop_at f (end_to_end fs ++ other) size whole.0)
    (ap (λ (gs : List (List ℕ)). f ∷ gs) (cut_again size fs other whole.1))

module _ (s : Settings) (tape : List ℕ) where
  abbrev size : ℕ
  size = frame_length s

  abbrev many : ℕ
  many = whole_frames s tape

  many_in : length (frames_in s tape) ≡ many
  many_in = cut_many many size tape

  its_frames : Frames s (frames_in s tape)
  its_frames = cut_each many size tape (div-mul-le_self (length tape) size)

  -- any frames that lie there, with a rest that is less than a frame, are so many
  as_many : (fs : List (List ℕ)) (other : List ℕ) → Frames s fs → length other < size → end_to_end fs ++ other ≡ tape → length fs ≡ many
  as_many fs other whole less e =
      let l : length tape ≡ length fs * size + length other = omega (arith, ap length e, length-append (end_to_end fs) other, all_long size fs whole) in
      sym (div-eq_of_lt-le size (omega arith) (omega arith))

  cut_into_frames : CutIntoFrames s tape
  cut_into_frames = record {
    so_many = many_in;
    each = its_frames;
    rest = drop (many * size) tape;
    less = omega (arith, length-drop (many * size) tape, div-add-mod' (length tape) size, mod-lt (length tape) (some_octets s));
    so_long = omega (arith, length-drop (many * size) tape, div-add-mod' (length tape) size);
    laid_again = parts_again many size tape (div-mul-le_self (length tape) size);
    only = λ fs other whole less e.
        let n : length fs ≡ many = as_many fs other whole less e in (
          sym (cut_again size fs other whole) ∙ rw (e, n),
          sym (drop_at (end_to_end fs) other (many * size) (all_long size fs whole ∙ ap (λ (k : ℕ). k * size) n)) ∙ ap (drop (many * size)) e,
        );
  }

-- whole frames, and those of what lies behind them
module _ (s : Settings) (a b : List ℕ) (whole : length a % frame_length s ≡ 0) where
  long : length (a ++ b) ≡ whole_frames s a * frame_length s + length b
  long = omega (arith, length-append a b, div-add-mod' (length a) (frame_length s), whole)

  many_behind : whole_frames s (a ++ b) ≡ whole_frames s a + whole_frames s b
  many_behind = rw long (mul-add-div_right (some_octets s) (whole_frames s a) (length b))

  rest_behind : length (a ++ b) % frame_length s ≡ length b % frame_length s
  rest_behind = rw long (mul-add-mod_self_right (whole_frames s a) (frame_length s) (length b))

  frames_behind : frames_in s (a ++ b) ≡ frames_in s a ++ frames_in s b
  frames_behind =
      ap (λ (n : ℕ). cut n (frame_length s) (a ++ b)) many_behind
      ∙ cut_behind (whole_frames s a) (whole_frames s b) (frame_length s) a b (omega (arith, div-add-mod' (length a) (frame_length s), whole))

-- ---- calls behind others

calls_behind : (call : Calling) (s : Settings) (store : List ℕ) (j : Judge) (fs gs : List (List ℕ))
    → left_by (calls call s store j (fs ++ gs)) ≡ left_by (calls call s (calls call s store j fs).store (calls call s store j fs).next gs)
unfolding calls
calls_behind call s store j [] gs = refl
calls_behind call s store j (f ∷ fs) gs = calls_behind call s (call s store j f).store (call s store j f).next fs gs

-- ---- a tape that no row refuses

tape_numbered : (s : Settings) (store : List ℕ) (j : Judge) (tape : List ℕ) → (tape_call s store j tape).refusal ≡ first (tape_refusals s store j tape)
unfolding tape_call
tape_numbered s store j tape = numbered (tape_refusals s store j tape) store j _

pub record Plays (s : Settings) (store : List ℕ) (j : Judge) (tape : List ℕ) : Type 0 where
  pub checked_well : Checks s store j
  pub few : tally_of j + whole_frames s tape ≤ most_frames
  pub whole : length tape % frame_length s ≡ 0

pub plays : (s : Settings) (store : List ℕ) (j : Judge) (tape : List ℕ) → first (tape_refusals s store j tape) ≡ 0 → Plays s store j tape
unfolding tape_refusals
plays s store j tape e =
    let (c, own) = checks s store j _ e in
    let last = none_holds 10 _ _ own in
    let rest = none_holds 2 _ _ last.1 in
    record {
      checked_well = c;
      few = ltb-false most_frames (tally_of j + whole_frames s tape) last.0;
      whole = eqb-true (length tape % frame_length s) 0 (not-false _ rest.0);
    }

-- the tape's own rows decide where those of settings, store and record do not refuse
module _ (s : Settings) (store : List ℕ) (j : Judge) (tape : List ℕ) {refusal size : ℕ} {past : Bool}
    (e : refusal ≡ first (close_rows s store j)) (none : refusal ≡ 0) (size_is : size ≡ frame_length s) (past_is : past ≡ (past_last j (length tape / size)).holds) where
  own_rows : pick past 11 (pick (not (eqb (length tape % size) 0)) 3 0) ≡ first (tape_refusals s store j tape)
  unfolding tape_refusals first
  own_rows =
      rw (past_is, size_is)
      (accepted_close s store j e (tape_rows s j tape) none)

  pub past_refused : past ≡ true → 11 ≡ first (tape_refusals s store j tape)
  past_refused t = rw t at own_rows

  pub rest_refused : past ≡ false → (length tape % size ≡ 0 → ⊥) → 3 ≡ first (tape_refusals s store j tape)
  rest_refused t h = rw (t, ne_eqb (length tape % size) 0 h) at own_rows

  pub none_refused : past ≡ false → length tape % size ≡ 0 → first (tape_refusals s store j tape) ≡ 0
  none_refused t h = sym (rw (t, eq-eqb (length tape % size) 0 h) at own_rows)

-- the calls with its frames
abbrev singly : Settings → List ℕ → Judge → List ℕ → RunCalls
singly s store j tape = judge_calls s store j (frames_in s tape)

module _ {s : Settings} {store : List ℕ} {j : Judge} {tape : List ℕ} (p : Plays s store j tape) where
  tape_unrefused : first (tape_refusals s store j tape) ≡ 0
  unfolding tape_refusals first
  tape_unrefused =
      checks_none (tape_rows s j tape) p.checked_well
      ∙ rw (le-ltb most_frames (tally_of j + whole_frames s tape) p.few, p.whole)

  tape_answered : tape_call s store j tape ≡ judge_answers 0 (left_by (singly s store j tape))
  unfolding tape_call
  tape_answered = rw tape_unrefused

  pub tape_ran : Ran s store (tally_of j + whole_frames s tape) (verdict_from s store j (frames_in s tape)) (singly s store j tape)
  tape_ran =
      let c = p.checked_well in
      rw (many_in s tape) at (judge_ran s store j (frames_in s tape) c.ranged c.room c.reached (rw (many_in s tape) p.few))

  -- what the next call finds
  checked_after : Checks s (singly s store j tape).store (singly s store j tape).next
  checked_after = record {
    ranged = p.checked_well.ranged;
    room = omega (arith, p.checked_well.room, tape_ran.same_room);
    reached = tape_ran.reach;
  }

-- ---- what tapes come to

none_in : (s : Settings) → frames_in s [] ≡ []
unfolding cut
none_in s = ap (λ (n : ℕ). cut n (frame_length s) []) (zero-div (frame_length s))

module _ (s : Settings) (store : List ℕ) (j : Judge) where
  tape_none : tape_call s store j [] ≡ judge_answers (first (close_rows s store j)) (judging j store)
  unfolding tape_call tape_refusals calls close_rows
  tape_none =
      test (eqb (first (close_rows s store j)) 0)
      (λ t.
      let e : first (close_rows s store j) ≡ 0 = eqb-true (first (close_rows s store j)) 0 t in
      let c : Checks s store j = checked_close s store j e in
      let p : Plays s store j [] = record {
        checked_well = c;
        few = omega (arith, zero-div (frame_length s), tally_most s store j c.reached);
        whole = zero-mod (frame_length s);
      } in
      tape_answered p ∙ rw (none_in s, e) refl)
      (λ t. rw (← (refused_close s store j refl (tape_rows s j []) (eqb-false (first (close_rows s store j)) 0 t)), t) refl)

  module _ (f : List ℕ) (right : length f ≡ frame_length s) where
    same_rows : first (tape_refusals s store j f) ≡ first (frame_refusals s store j)
    unfolding tape_refusals frame_refusals first
    same_rows = rw (right, div_self (some_octets s), mod_self (frame_length s)) refl

    alone_in : frames_in s f ≡ f ∷ []
    unfolding cut
    alone_in =
        rw (right, div_self (some_octets s)) (ap (λ (g : List ℕ). g ∷ []) (take_all (frame_length s) f (omega arith)))

    tape_one : tape_call s store j f ≡ frame_call s store j f
    unfolding tape_call frame_call calls
    tape_one =
        test (eqb (first (frame_refusals s store j)) 0)
        (λ t. rw (same_rows, alone_in, t))
        (λ t. rw (same_rows, t))

  module _ (a b : List ℕ) (taken : (tape_call s store j a).refusal ≡ 0) where
    first_played : Plays s store j a
    first_played = plays s store j a (sym (tape_numbered s store j a) ∙ taken)

    abbrev left : RunCalls
    left = singly s store j a

    -- the second tape's rows, behind the first, are those of both
    rows_behind : first (tape_refusals s left.store left.next b) ≡ first (tape_refusals s store j (a ++ b))
    unfolding tape_refusals
    rows_behind =
        let p = first_played in
        let tally : tally_of left.next + whole_frames s b ≡ tally_of j + whole_frames s (a ++ b) =
        omega (arith, (tape_ran p).counted, many_behind s a b p.whole) in
        checks_none _ (checked_after p)
        ∙ ap₂ (λ (n r : ℕ). first (row 11 (ltb most_frames n) ∷ row 3 (not (eqb r 0)) ∷ [])) tally (sym (rest_behind s a b p.whole))
        ∙ sym (checks_none _ p.checked_well)

    -- and what it leaves where they refuse neither is what both leave
    both_played : first (tape_refusals s store j (a ++ b)) ≡ 0 → tape_call s left.store left.next b ≡ tape_call s store j (a ++ b)
    both_played none =
        let as_one : frames_in s (a ++ b) ≡ frames_in s a ++ frames_in s b = frames_behind s a b first_played.whole in
        tape_answered (plays s left.store left.next b (rows_behind ∙ none))
        ∙ ap (judge_answers 0)
        (sym (calls_behind frame_call s store j (frames_in s a) (frames_in s b)) ∙ ap (λ (fs : List (List ℕ)). left_by (judge_calls s store j fs)) (sym as_one))
        ∙ sym (tape_answered (plays s store j (a ++ b) none))

    tape_behind : AsOne (tape_call s (tape_call s store j a).store (tape_call s store j a).next b) (tape_call s store j (a ++ b))
    tape_behind =
        rw (tape_answered first_played)
        (record {
          same_refusal = tape_numbered s left.store left.next b ∙ rows_behind ∙ sym (tape_numbered s store j (a ++ b));
          same = λ e. both_played (sym (tape_numbered s store j (a ++ b)) ∙ e);
        })

nothing : (os : List ℕ) → length os ≡ 0 → os ≡ []
nothing [] e = refl
nothing (o ∷ os) e = absurd (omega arith)

module _ (s : Settings) (store : List ℕ) (j : Judge) (tape : List ℕ) (none : first (close_rows s store j) ≡ 0) where
  tape_past : most_frames < tally_of j + length (frames_in s tape) → (tape_call s store j tape).refusal ≡ 11
  tape_past h = tape_numbered s store j tape ∙ sym (past_refused s store j tape refl none refl refl (lt-ltb most_frames (tally_of j + whole_frames s tape) (omega (arith, many_in s tape))))

  tape_torn : tally_of j + length (frames_in s tape) ≤ most_frames → (end_to_end (frames_in s tape) ≡ tape → ⊥) → (tape_call s store j tape).refusal ≡ 3
  tape_torn few h =
      let c : CutIntoFrames s tape = cut_into_frames s tape in
      tape_numbered s store j tape ∙ sym (rest_refused s store j tape refl none refl refl (le-ltb most_frames (tally_of j + whole_frames s tape) (omega (arith, many_in s tape)))
      (λ e. h (sym (append-nil (end_to_end (frames_in s tape))) ∙ ap (λ (os : List ℕ). end_to_end (frames_in s tape) ++ os) (sym (nothing c.rest (c.so_long ∙ e))) ∙ c.laid_again)))

-- tapes from any record, and the frames in them
played_all : (s : Settings) (store : List ℕ) (j : Judge) (ts : List (List ℕ)) → Checks s store j
    → All (λ (t : List ℕ). length t % frame_length s ≡ 0) ts → tally_of j + whole_frames s (end_to_end ts) ≤ most_frames
    → LeaveTheSame (tape_calls s store j ts) (singly s store j (end_to_end ts))
unfolding calls
played_all s store j [] c whole few = rw (none_in s) (record { tapes_taken = tt; same = refl })
played_all s store j (t ∷ ts) c whole few =
    let on : List ℕ = end_to_end ts in
    let many = many_behind s t on whole.0 in
    let p : Plays s store j t = record { checked_well = c; few = omega arith; whole = whole.0 } in
    let left : RunCalls = singly s store j t in
    let r = played_all s left.store left.next ts (checked_after p) whole.1 (omega (arith, (tape_ran p).counted)) in
    rw (tape_answered p, frames_behind s t on whole.0) (record {
      tapes_taken = (refl, r.tapes_taken);
      same = r.same ∙ sym (calls_behind frame_call s store j (frames_in s t) (frames_in s on));
    })

-- a run's frames are those in its tapes
cut_same : (s : Settings) (fs ts : List (List ℕ)) → CutInto s fs ts → fs ≡ frames_in s (end_to_end ts)
cut_same s fs ts c =
    ((cut_into_frames s (end_to_end ts)).only fs [] c.frames_whole (some_octets s) (append-nil (end_to_end fs) ∙ sym c.same_octets)).0

whole_tapes : (s : Settings) (ts : List (List ℕ)) → All (λ (t : List ℕ). length t % frame_length s ≡ 0) ts → length (end_to_end ts) % frame_length s ≡ 0
whole_tapes s [] whole = zero-mod (frame_length s)
whole_tapes s (t ∷ ts) whole = rest_behind s t (end_to_end ts) whole.0 ∙ whole_tapes s ts whole.1

any_tapes : (s : Settings) (ts : List (List ℕ)) → All (λ (t : List ℕ). length t % frame_length s ≡ 0) ts → CutInto s (frames_in s (end_to_end ts)) ts
any_tapes s ts whole =
    let c : CutIntoFrames s (end_to_end ts) = cut_into_frames s (end_to_end ts) in
    let none : c.rest ≡ [] = nothing c.rest (c.so_long ∙ whole_tapes s ts whole) in
    record {
      frames_whole = c.each;
      tapes_whole = whole;
      same_octets = sym c.laid_again ∙ ap (λ (os : List ℕ). end_to_end (frames_in s (end_to_end ts)) ++ os) none ∙ append-nil (end_to_end (frames_in s (end_to_end ts)));
    }

tapes_anywhere : (s : Settings) (store : List ℕ) (j : Judge) (fs ts : List (List ℕ)) → Fit s store → judge_reachable s store j ≡ true
    → tally_of j + length fs ≤ most_frames → CutInto s fs ts → LeaveTheSame (tape_calls s store j ts) (judge_calls s store j fs)
tapes_anywhere s store j fs ts (ok, room) reach few c =
    let e : fs ≡ frames_in s (end_to_end ts) = cut_same s fs ts c in
    let many : length fs ≡ whole_frames s (end_to_end ts) = ap length e ∙ many_in s (end_to_end ts) in
    subst (λ (gs : List (List ℕ)). LeaveTheSame (tape_calls s store j ts) (judge_calls s store j gs)) (sym e)
    (played_all s store j ts (record { ranged = ok; room = room; reached = reach }) c.tapes_whole (omega arith))

pub tapes_are_frames : TapesAreFrames
tapes_are_frames = record { cut = cut_into_frames; none = tape_none; one = tape_one; past = tape_past; torn = tape_torn; behind = tape_behind; any_tapes = any_tapes; anywhere = tapes_anywhere }

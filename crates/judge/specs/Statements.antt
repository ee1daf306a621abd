-- What is shown of the judge's calls.
use Rattle.std.specs.Prelude.{◌≡◌, List, [], ◌++◌, true, ℕ, ◌+◌, ◌%◌, ◌≤◌, ◌<◌, length, drop}
use Rattle.octets.specs.Basics.{All, first}
use Rattle.packets.specs.Packet.{end_to_end}
use Rattle.frames.specs.Frame.{frame_length, Frames, most_frames}
use Rattle.frames.specs.declared.Settings.{Settings}
use Rattle.extractor.specs.Statements.{Fit}
use Rattle.judge.specs.Judge.{verdict}
use Rattle.judge.specs.Calls.{tally_of, judge_reachable, close_rows, judging, JudgeSaid, judge_answers, Calling, frame_call, close_says, closes_with, RunCalls, left_by, judge_calls, judge_run}
use Rattle.judge.specs.Tapes.{whole_frames, frames_in, tape_call, tape_calls, CutInto}
use Rattle.judge.specs.declared.Judge.{Judge}

-- A refusal leaves record and store as they were. The record that any other call hands back passes the test for refusal 10 over the store
-- that it leaves; and the store has its length and its octets from the limit on.
pub record Keeps (call : Calling) : Type 0 where
  pub refused : (s : Settings) (store : List ℕ) (j : Judge) (os : List ℕ) → ((call s store j os).refusal ≡ 0 → ⊥)
      → call s store j os ≡ judge_answers (call s store j os).refusal (judging j store)
  pub reached : (s : Settings) (store : List ℕ) (j : Judge) (os : List ℕ) → (call s store j os).refusal ≡ 0
      → judge_reachable s (call s store j os).store (call s store j os).next ≡ true
  pub length_kept : (s : Settings) (store : List ℕ) (j : Judge) (os : List ℕ) → length (call s store j os).store ≡ length store
  pub far_kept : (s : Settings) (store : List ℕ) (j : Judge) (os : List ℕ) → drop s.limit (call s store j os).store ≡ drop s.limit store

-- so it is with a frame, and with a tape
pub record KeepsToTheTest : Type 0 where
  pub frame : Keeps frame_call
  pub tape : Keeps tape_call

-- A run, judged from nothing to its close, comes to the verdict of the written rules, whatever the store holds.
abbrev pub ComesToTheVerdict : Type 0
ComesToTheVerdict = (s : Settings) (store : List ℕ) (fs : List (List ℕ)) → Fit s store → length fs ≤ most_frames
    → judge_run s store fs ≡ close_says (closes_with (verdict s fs))

-- ---- tapes

-- The frames of a tape: so many, each as long as a frame, and end to end they are the tape, but for a rest that is less than a frame; and no
-- others are.
pub record CutIntoFrames (s : Settings) (tape : List ℕ) : Type 0 where
  pub so_many : length (frames_in s tape) ≡ whole_frames s tape
  pub each : Frames s (frames_in s tape)
  pub rest : List ℕ
  pub less : length rest < frame_length s
  pub so_long : length rest ≡ length tape % frame_length s
  pub laid_again : end_to_end (frames_in s tape) ++ rest ≡ tape
  pub only : (fs : List (List ℕ)) (other : List ℕ) → Frames s fs → length other < frame_length s → end_to_end fs ++ other ≡ tape
      → (fs ≡ frames_in s tape) × (other ≡ rest)

-- none of the calls with tapes is refused, and they leave what those with frames leave
pub record LeaveTheSame (tapes frames : RunCalls) : Type 0 where
  pub tapes_taken : All (λ n. n ≡ 0) tapes.refusals
  pub same : left_by tapes ≡ left_by frames

-- The second tape is refused for what the tape of both is refused for; where it is not, it leaves what that leaves.
pub record AsOne (second both : JudgeSaid) : Type 0 where
  pub same_refusal : second.refusal ≡ both.refusal
  pub same : both.refusal ≡ 0 → second ≡ both

pub record TapesAreFrames : Type 0 where
  pub cut : (s : Settings) (tape : List ℕ) → CutIntoFrames s tape
  -- a tape of no frame is refused for what closing is, and takes none
  pub none : (s : Settings) (store : List ℕ) (j : Judge) → tape_call s store j [] ≡ judge_answers (first (close_rows s store j)) (judging j store)
  -- where settings, store and record are not refused, it is by 11 where its frames pass the last that a run may have, with a rest or
  -- without, and else by 3 where they are not the whole tape
  pub past : (s : Settings) (store : List ℕ) (j : Judge) (tape : List ℕ) → first (close_rows s store j) ≡ 0
      → most_frames < tally_of j + length (frames_in s tape) → (tape_call s store j tape).refusal ≡ 11
  pub torn : (s : Settings) (store : List ℕ) (j : Judge) (tape : List ℕ) → first (close_rows s store j) ≡ 0
      → tally_of j + length (frames_in s tape) ≤ most_frames → (end_to_end (frames_in s tape) ≡ tape → ⊥) → (tape_call s store j tape).refusal ≡ 3
  -- a tape of one frame is the single call
  pub one : (s : Settings) (store : List ℕ) (j : Judge) (f : List ℕ) → length f ≡ frame_length s → tape_call s store j f ≡ frame_call s store j f
  -- a tape behind a tape is the tape of both
  pub behind : (s : Settings) (store : List ℕ) (j : Judge) (a b : List ℕ) → (tape_call s store j a).refusal ≡ 0
      → AsOne (tape_call s (tape_call s store j a).store (tape_call s store j a).next b) (tape_call s store j (a ++ b))
  -- any tapes of whole frames are the frames in them, cut so
  pub any_tapes : (s : Settings) (ts : List (List ℕ)) → All (λ (t : List ℕ). length t % frame_length s ≡ 0) ts
      → CutInto s (frames_in s (end_to_end ts)) ts
  -- frames handed over in tapes, cut anywhere, from any record that the rules can reach, are those frames handed over singly
  pub anywhere : (s : Settings) (store : List ℕ) (j : Judge) (fs ts : List (List ℕ)) → Fit s store → judge_reachable s store j ≡ true
      → tally_of j + length fs ≤ most_frames → CutInto s fs ts
      → LeaveTheSame (tape_calls s store j ts) (judge_calls s store j fs)

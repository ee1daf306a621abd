-- A tape: frames end to end in one lent buffer, handed over in a single call.
use Rattle.std.specs.Prelude.{ℕ, ◌/◌, ◌%◌, ◌≡◌, List, [], ◌∷◌, not, length, eqb}
use Rattle.octets.specs.Basics.{All, cut, Row, row}
use Rattle.packets.specs.Packet.{end_to_end}
use Rattle.frames.specs.Frame.{frame_length, Frames}
use Rattle.frames.specs.declared.Settings.{Settings}
use Rattle.judge.specs.Calls.{checked, past_last, unless_refused, Calling, CloseSaid, RunCalls, calls, left_by, judge_calls, run_by}
use Rattle.judge.specs.declared.Judge.{Judge}

-- the whole frames in its octets
abbrev pub whole_frames : Settings → List ℕ → ℕ
whole_frames s tape = length tape / frame_length s

-- its octets cut into them, without a rest
abbrev pub frames_in : Settings → List ℕ → List (List ℕ)
frames_in s tape = cut (whole_frames s tape) (frame_length s) tape

-- what is wrong with a tape by itself: its whole frames pass the last that a run may have, or octets are left behind them
abbrev pub tape_rows : Settings → Judge → List ℕ → List Row
tape_rows s j tape = past_last j (whole_frames s tape) ∷ row 3 (not (eqb (length tape % frame_length s) 0)) ∷ []

-- what it is refused for, in order
unfoldable pub tape_refusals : Settings → List ℕ → Judge → List ℕ → List Row
tape_refusals s store j tape = checked s store j (tape_rows s j tape)

-- what the rules give: a refusal, or what the calls with its frames leave
unfoldable pub tape_call : Calling
tape_call s store j tape = unless_refused (tape_refusals s store j tape) store j (left_by (judge_calls s store j (frames_in s tape)))

-- a run in tapes
abbrev pub tape_calls : Settings → List ℕ → Judge → List (List ℕ) → RunCalls
tape_calls = calls tape_call

abbrev pub tape_run : Settings → List ℕ → List (List ℕ) → CloseSaid
tape_run = run_by tape_call

-- a run's frames cut into tapes, anywhere between two frames
pub record CutInto (s : Settings) (fs ts : List (List ℕ)) : Type 0 where
  pub frames_whole : Frames s fs
  pub tapes_whole : All (λ (t : List ℕ). length t % frame_length s ≡ 0) ts
  pub same_octets : end_to_end ts ≡ end_to_end fs

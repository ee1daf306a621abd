-- A tape played from one frame to the next: the calls with the frames that are left leave what all the calls leave.
-- Assumes nothing.
use mathlib.Core.Path.{◌≡◌, refl, sym, ap, ◌∙◌}
use mathlib.Core.List.{List, ◌++◌}
use Prim.Native.Nat.{ℕ, zero, suc, ◌+◌, ◌*◌, ◌≤◌, ◌<◌}
use native.Mathlib.Nat.{div-add-mod'}
use native.Mathlib.Omega.{arith}
use lib.ListN.{length, length-append}
use lib.Seq.{take_at, drop_at}
use Rattle.octets.specs.Basics.{cut, first}
use Rattle.frames.specs.Frame.{frame_length, most_frames}
use Rattle.frames.specs.declared.Settings.{Settings}
use Rattle.judge.specs.Calls.{tally_of, frame_refusals, Judging, judging, judge_frame, JudgeSaid, calls, left_by, judge_calls}
use Rattle.judge.specs.Tapes.{whole_frames, frames_in}
use Rattle.judge.specs.declared.Judge.{Judge}
use Rattle.judge.proofs.Accepting.{Checks, Accepts}
use Rattle.judge.proofs.Advances.{judge_advances}
use Rattle.judge.proofs.Runs.{frame_accepted, frame_answered}
use Rattle.judge.proofs.Tapes.{Plays, some_octets}

-- the octets `rest` are left, which are so many frames of `size` octets
pub record Winds (s : Settings) (all : Judging) (store₀ store : List ℕ) (j : Judge) (size : ℕ) (rest : List ℕ) : Type 0 where
  pub left : ℕ
  pub sized : size ≡ frame_length s
  pub there : left * frame_length s ≡ length rest
  pub found : Checks s store j
  pub few : tally_of j + left ≤ most_frames
  pub same_room : length store ≡ length store₀
  pub same : left_by (judge_calls s store j (cut left (frame_length s) rest)) ≡ all

pub winds_first : {s : Settings} {store : List ℕ} {j : Judge} {size : ℕ} {tape rest : List ℕ} → size ≡ frame_length s → rest ≡ tape → Plays s store j tape
    → Winds s (left_by (judge_calls s store j (frames_in s tape))) store store j size rest
winds_first {s} {store} {j} {size} {tape} {rest} sized all_left p = record {
  left = whole_frames s tape;
  sized = sized;
  there = omega (arith, ap length all_left, div-add-mod' (length tape) (frame_length s), p.whole);
  found = p.checked_well;
  few = p.few;
  same_room = refl;
  same = ap (λ (os : List ℕ). left_by (judge_calls s store j (cut (whole_frames s tape) (frame_length s) os))) all_left;
}

-- where less than a frame is left, none is
pub winds_last : {s : Settings} {all : Judging} {store₀ store : List ℕ} {j : Judge} {size : ℕ} {rest : List ℕ}
    → Winds s all store₀ store j size rest → length rest < size → judging j store ≡ all
unfolding calls cut frame_length
winds_last {s} {all} {store₀} {store} {j} {size} {rest} w ended = go w.left w.there w.same
  where
    go : (n : ℕ) → n * frame_length s ≡ length rest → left_by (judge_calls s store j (cut n (frame_length s) rest)) ≡ all → judging j store ≡ all
    go zero e kept = kept
    go (suc n) e kept = absurd (omega (arith, w.sized))

-- where a frame is, it is taken
module _ {s : Settings} {all : Judging} {store₀ store : List ℕ} {j : Judge} {size : ℕ} {rest : List ℕ} (frame behind : List ℕ)
    (w : Winds s all store₀ store j size rest) (e : rest ≡ frame ++ behind) (whole : length frame ≡ size) where
  long : length frame ≡ frame_length s
  long = whole ∙ w.sized

  one_left : (n : ℕ) × (w.left ≡ suc n)
  one_left = go w.left w.there
    where
      go : (n : ℕ) → n * frame_length s ≡ length rest → (k : ℕ) × (n ≡ suc k)
      go zero none = absurd (omega (arith, ap length e, length-append frame behind, some_octets s, long))
      go (suc n) some = (n, refl)

  abbrev on : ℕ
  on = one_left.0

  accepts : Accepts s store j
  accepts = record { found = w.found; few = omega (arith, w.few, one_left.1) }

  pub frame_taken : first (frame_refusals s store j) ≡ 0
  frame_taken = frame_accepted accepts

  -- what the calls with the frames behind it leave
  abbrev onward : ℕ → Judging → Judging
  onward n k = left_by (judge_calls s k.store k.next (cut n (frame_length s) behind))

  from_it : (n : ℕ) → left_by (judge_calls s store j (cut (suc n) (frame_length s) rest)) ≡ onward n (judge_frame s store j frame)
  unfolding calls cut
  from_it n =
      rw (e, take_at frame behind (frame_length s) long, drop_at frame behind (frame_length s) long)
      (ap (λ (a : JudgeSaid). left_by (judge_calls s a.store a.next (cut n (frame_length s) behind))) (frame_answered frame accepts))

  left_is : left_by (judge_calls s store j (cut w.left (frame_length s) rest)) ≡ onward on (judge_frame s store j frame)
  left_is = ap (λ (n : ℕ). left_by (judge_calls s store j (cut n (frame_length s) rest))) one_left.1 ∙ from_it on

  -- and it leads to them
  pub winds_on : {k : Judge} {store' : List ℕ} {size' : ℕ} → size' ≡ size → judging k store' ≡ judge_frame s store j frame → Winds s all store₀ store' k size' behind
  winds_on {k} {store'} same_size r =
      let a = rw (← r) at (judge_advances s store j frame accepts) in
      record {
        left = on;
        sized = same_size ∙ w.sized;
        there = omega (arith, w.there, ap length e, length-append frame behind, long, ap (λ (n : ℕ). n * frame_length s) one_left.1);
        found = record { ranged = w.found.ranged; room = omega (arith, a.same_room, w.found.room); reached = a.reach };
        few = omega (arith, a.counted, w.few, one_left.1);
        same_room = a.same_room ∙ w.same_room;
        same = ap (onward on) r ∙ sym left_is ∙ w.same;
      }

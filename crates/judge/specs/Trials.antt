-- What the parts of a call that is not refused go by.
use Rattle.std.specs.Prelude.{◌≡◌, List, true, ℕ, ◌+◌, ◌≤◌, ◌<◌, length}
use Rattle.frames.specs.Frame.{in_range, most_frames}
use Rattle.frames.specs.declared.Settings.{Settings}
use Rattle.extractor.specs.Records.{reachable}
use Rattle.extractor.specs.declared.Extractor.{Extractor}
use Rattle.extractor.specs.declared.Extractor.TheVariants.{Fresh, Astray, InStep, Walking, Leaving}
use Rattle.judge.specs.Calls.{faults_at}
use Rattle.judge.specs.declared.Judge.{Judge}
use Rattle.judge.specs.declared.Judge.TheVariants.{Sound}

-- frame n, before which the extractor is in step
pub record Tries (s : Settings) (n : ℕ) (x : Extractor) (store : List ℕ) : Type 0 where
  pub ranged : in_range s ≡ true
  pub room : s.limit ≤ length store
  pub few : n < most_frames
  pub last : ℕ
  pub held : ℕ
  pub between : x ≡ InStep last held
  pub reached : reachable s store x ≡ true

-- the judge after frame n, from the extractor's record: only damage leaves that out of step
unfoldable pub goes_on_from : ℕ → Extractor → Judge
goes_on_from n Fresh = faults_at n
goes_on_from n (Astray last) = faults_at n
goes_on_from n (InStep last held) = Sound (n + 1) last held
goes_on_from n (Walking last held at) = faults_at n
goes_on_from n (Leaving last) = faults_at n

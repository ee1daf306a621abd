-- The run file: its kinds, its setup, its limit of 4,096 and its bad records.
use Rattle.std.specs.Prelude.{ℕ, ◌≡◌, Bool, true, false, List, [], ◌∷◌, ◌++◌, map}
use Rattle.std.proofs.Math.Option.{Option, none, some}
use Rattle.frames.specs.declared.Edition.{Edition}
use Rattle.frames.specs.declared.Edition.TheVariants.{Former, CycleUnused, CycleUsed}
use Rattle.frames.specs.declared.Settings.{Settings}
use Rattle.runfile.specs.RunFile.{reading, run_file}
use Rattle.runfile.specs.Steps.{body_length, taken, closed}
use Rattle.runfile.specs.declared.Progress.{Progress}
use Rattle.runfile.specs.declared.Progress.TheVariants.{Start, Running, Ended, Bad}
use Rattle.demands.specs.Numbers.Samples.{lent}

-- the settings that a setup has
abbrev pub set : ℕ → ℕ → ℕ → ℕ → Settings
set spacecraft channel zone limit = record { link = record { spacecraft = spacecraft; channel = channel; trailed = false; edition = Former }; zone = zone; limit = limit; fill = 0 }

-- the setup of the sample run, and the progress of its reader after so many frames
abbrev pub setup : List ℕ
setup = 0x42 ∷ 0x03 ∷ 0x00 ∷ 0x0A ∷ 0x00 ∷ 0x04 ∷ 0x00 ∷ []

abbrev pub running : ℕ → Progress
running frames = Running (set 66 3 10 1024) frames

-- the same with trailers, and at another edition
abbrev pub with_others : Bool → Edition → Progress
with_others on e = Running (record { link = record { spacecraft = 66; channel = 3; trailed = on; edition = e }; zone = 10; limit = 1024; fill = 0 }) 0

-- a run of one frame
abbrev pub one_frame : List ℕ
one_frame = 1 ∷ (setup ++ (2 ∷ (lent 18 ++ (3 ∷ []))))

-- what record is bad in a file
abbrev pub bad : List ℕ → Option ℕ
bad os = (reading os).bad

pub record Records : Type 0 where
  -- each field of the setup at its place, and 4,096 at most
  pub setups : map (taken Start 1) (setup ∷ (0xFF ∷ 0x3E ∷ 0x07 ∷ 0xFE ∷ 0x00 ∷ 0x10 ∷ 0x00 ∷ []) ∷ (0 ∷ 0 ∷ 0x00 ∷ 0x01 ∷ 0x00 ∷ 0x10 ∷ 0x01 ∷ []) ∷ (0 ∷ 0 ∷ 0x00 ∷ 0x01 ∷ 0x01 ∷ 0x00 ∷ 0x07 ∷ []) ∷ [])
      ≡ running 0 ∷ Running (set 255 62 2046 4096) 0 ∷ Bad 0 ∷ Bad 0 ∷ []
  -- a setup has no place for a trailer or another edition, so that no file leads to one
  pub no_trailer : map (λ on. body_length (with_others on Former) 2) (false ∷ true ∷ []) ≡ 18 ∷ 0 ∷ []
  pub no_edition : map (λ e. body_length (with_others false e) 2) (Former ∷ CycleUnused ∷ CycleUsed ∷ []) ≡ 18 ∷ 0 ∷ 0 ∷ []
  -- the kinds 1, 2 and 3 in their order, and how many octets of body each has; any other is bad
  pub bodies : map (body_length Start) (1 ∷ 2 ∷ 3 ∷ []) ++ map (body_length (running 0)) (1 ∷ 2 ∷ 3 ∷ []) ≡ 7 ∷ 0 ∷ 0 ∷ 0 ∷ 18 ∷ 0 ∷ []
  pub first : map (λ kind. taken Start kind setup) (0 ∷ 1 ∷ 2 ∷ 3 ∷ []) ≡ Bad 0 ∷ running 0 ∷ Bad 0 ∷ Bad 0 ∷ []
  pub frame : map (λ kind. taken (running 4) kind (lent 18)) (1 ∷ 2 ∷ 3 ∷ 4 ∷ []) ≡ Bad 5 ∷ running 5 ∷ Bad 5 ∷ Bad 5 ∷ []
  pub end : map (λ kind. taken (running 4) kind []) (1 ∷ 2 ∷ 3 ∷ 4 ∷ []) ≡ Bad 5 ∷ Bad 5 ∷ Ended 4 ∷ Bad 5 ∷ []
  pub after : map (λ kind. taken (Ended 4) kind []) (1 ∷ 2 ∷ 3 ∷ []) ≡ Bad 6 ∷ Bad 6 ∷ Bad 6 ∷ []
  -- a frame past the judge's last is bad, and the end may follow the last
  pub last_frame : map (λ n. taken (running n) 2 (lent 18)) (16777215 ∷ 16777216 ∷ []) ≡ running 16777216 ∷ Bad 16777217 ∷ []
  pub last_body : map (λ n. body_length (running n) 2) (16777215 ∷ 16777216 ∷ []) ≡ 18 ∷ 0 ∷ []
  pub last_end : taken (running 16777216) 3 [] ∷ closed (Ended 16777216) ∷ [] ≡ Ended 16777216 ∷ Ended 16777216 ∷ []
  -- input that ends before a 3 is cut
  pub cut : map closed (Start ∷ running 4 ∷ Ended 4 ∷ Bad 3 ∷ []) ≡ Bad 0 ∷ Bad 5 ∷ Ended 4 ∷ Bad 3 ∷ []
  -- progress that is bad keeps its number, and takes no body
  pub stays : map (λ kind. taken (Bad 3) kind setup) (1 ∷ 2 ∷ 3 ∷ []) ≡ Bad 3 ∷ Bad 3 ∷ Bad 3 ∷ []
  pub no_bodies : map (body_length (Ended 4)) (1 ∷ 2 ∷ 3 ∷ []) ++ map (body_length (Bad 3)) (1 ∷ 2 ∷ 3 ∷ []) ≡ 0 ∷ 0 ∷ 0 ∷ 0 ∷ 0 ∷ 0 ∷ []
  -- a whole file, both ways, and the number of the record that is bad
  pub whole : reading one_frame ≡ record { setup = some (set 66 3 10 1024); frames = lent 18 ∷ []; bad = none }
  pub written : run_file (set 66 3 10 1024) (lent 18 ∷ []) ≡ one_frame
  pub bad_records : map bad
      ([] ∷ (2 ∷ []) ∷ (1 ∷ setup) ∷ (1 ∷ (setup ++ (2 ∷ lent 17))) ∷ (1 ∷ (setup ++ (4 ∷ []))) ∷ (1 ∷ (setup ++ (3 ∷ []))) ∷ (1 ∷ (setup ++ (3 ∷ 3 ∷ []))) ∷ [])
      ≡ some 0 ∷ some 0 ∷ some 1 ∷ some 1 ∷ some 1 ∷ none ∷ some 2 ∷ []
  pub bad_after : map (λ last. bad (one_frame ++ last)) ([] ∷ (3 ∷ []) ∷ []) ≡ none ∷ some 3 ∷ []
  pub bad_frames : map (λ last. bad (1 ∷ (setup ++ (2 ∷ (lent 18 ++ (2 ∷ (lent 18 ++ last))))))) ([] ∷ (3 ∷ []) ∷ (4 ∷ []) ∷ []) ≡ some 3 ∷ none ∷ some 3 ∷ []

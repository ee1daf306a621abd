-- Demand 3 over the written rules: a run is passed exactly when some list is carried; that list is the only one, and it is handed over.
use Rattle.std.specs.Prelude.{◌≡◌, List, ℕ}
use Rattle.frames.specs.declared.Settings.{Settings}
use Rattle.extractor.specs.Extract.{fresh, marked, heard}
use Rattle.judge.specs.Judge.{pass, verdict}
use Rattle.carries.specs.Carries.{Carries}

-- what the rules' verdict on a run says, and what a fresh extractor hears of it
pub record JudgedRight (s : Settings) (fs : List (List ℕ)) : Type 0 where
  pub sound : verdict s fs ≡ pass → (ps : List (List ℕ)) × Carries s fs ps
  pub complete : (ps : List (List ℕ)) → Carries s fs ps → verdict s fs ≡ pass
  pub only : (ps qs : List (List ℕ)) → Carries s fs ps → Carries s fs qs → ps ≡ qs
  pub handed_over : (ps : List (List ℕ)) → Carries s fs ps → heard s fresh fs ≡ marked ps

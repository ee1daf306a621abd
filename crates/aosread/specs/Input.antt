-- Standard input through a buffer.
use Rattle.std.specs.Prelude.{◌≡◌, ◌+◌, List, [], ◌∷◌, ◌++◌, ℕ, min, length, take, Result, Ok, Err}
use Rattle.runfile.specs.Steps.{body_length, taken, closed}
use Rattle.runfile.specs.declared.Progress.{Progress}
use Rattle.aosread.specs.Held.{Held}

-- octets that are not yet taken stand first in others: none of them is lost
abbrev pub StandFirst : List ℕ → List ℕ → Type 0
StandFirst unread os = take (length unread) os ≡ unread

-- a record is the next: its kind, its body as long as that says or as there is, and so far the run is read after it
pub record IsNext (r next : Progress) (before : List ℕ) (after : Held) : Type 0 where
  pub kind : ℕ
  pub size : length after.body ≡ min (body_length r kind) (length after.body + length after.unread)
  pub reads : next ≡ taken r kind after.body
  pub all_there : StandFirst before (kind ∷ (after.body ++ after.unread))

-- how far the run is read after the record that follows; or, as no octet was left, after its end
abbrev pub Follows : Progress → Result Progress Progress → List ℕ → Held → Type 0
Follows r (Err end) before after = (end ≡ closed r) × StandFirst before []
Follows r (Ok next) before after = IsNext r next before after

-- The rows of settings, store and record: the extractor's own, and the judge's numbers below them.
-- Assumes nothing.
use mathlib.Core.Path.{◌≡◌, refl, sym, ◌∙◌}
use mathlib.Core.List.{List, []}
use mathlib.Core.Bool.{Bool, true, false, not}
use Prim.Native.Nat.{ℕ}
use native.Mathlib.Omega.{arith}
use lib.ListN.{length}
use lib.Dec.{ltb}
use Rattle.octets.specs.Basics.{pick, and, first, Row}
use Rattle.frames.specs.Frame.{in_range}
use Rattle.frames.specs.declared.Settings.{Settings}
use Rattle.extractor.specs.Records.{reachable}
use Rattle.extractor.specs.Records as extractor
use Rattle.judge.specs.Calls.{extractor_of, counts_well, judge_reachable, checked, close_rows}
use Rattle.judge.specs.declared.Judge.{Judge}

abbrev three : Bool → Bool → Bool → ℕ → ℕ
three a b t below = pick (not a) 1 (pick b 2 (pick (not t) 10 below))

-- a row that holds refuses, whatever stands below it
some : (a b t : Bool) (below : ℕ) → (three a b t 0 ≡ 0 → ⊥) → three a b t 0 ≡ three a b t below
some false b t below h = refl
some true true t below h = refl
some true false true below h = absurd (h refl)
some true false false below h = refl

-- where none holds, what stands below them decides
none : (a b t : Bool) (below : ℕ) → three a b t 0 ≡ 0 → (a ≡ true) × (below ≡ three a b t below)
none false b t below e = absurd (omega arith)
none true true t below e = absurd (omega arith)
none true false true below e = (refl, refl)
none true false false below e = absurd (omega arith)

-- two tests of a record are one row
both : (a b t u : Bool) → three a b t (pick (not u) 10 0) ≡ three a b (and t u) 0
both a b true u = refl
both a b false u = refl

module _ (s : Settings) (store : List ℕ) (j : Judge) where
  abbrev short : Bool
  short = ltb (length store) s.limit

  abbrev held_well : Bool
  held_well = reachable s store (extractor_of j)

  -- what the extractor's rows tell of the record that the judge goes on from
  abbrev pub holding : ℕ
  holding = first (extractor.checked s (extractor_of j) store [])

  -- where they refuse, the judge does so by the same number
  pub refused_holding : (holding ≡ 0 → ⊥) → holding ≡ first (close_rows s store j)
  unfolding first close_rows judge_reachable
  refused_holding h =
      some (in_range s) short held_well (pick (not (counts_well s j)) 10 0) h ∙ both (in_range s) short held_well (counts_well s j)

  -- where they do not, the record's own numbers decide
  pub accepted_holding : holding ≡ 0 → (in_range s ≡ true) × (pick (not (counts_well s j)) 10 0 ≡ first (close_rows s store j))
  unfolding first close_rows judge_reachable
  accepted_holding e =
      let passed = none (in_range s) short held_well (pick (not (counts_well s j)) 10 0) e in
      (passed.0, passed.1 ∙ both (in_range s) short held_well (counts_well s j))

  -- the same of any rows that stand below those of the close
  module _ {r : ℕ} (e : r ≡ first (close_rows s store j)) (below : List Row) where
    pub refused_close : (r ≡ 0 → ⊥) → r ≡ first (checked s store j below)
    unfolding first close_rows
    refused_close h = e ∙ some (in_range s) short (judge_reachable s store j) (first below) (λ z. h (e ∙ z))

    pub accepted_close : r ≡ 0 → first below ≡ first (checked s store j below)
    unfolding first close_rows
    accepted_close z = (none (in_range s) short (judge_reachable s store j) (first below) (sym e ∙ z)).1

-- The rows of a call's refusals, as the code goes down them.
-- Assumes nothing.
use mathlib.Core.Path.{◌≡◌, refl, sym, ap, ◌∙◌}
use mathlib.Core.List.{List, [], ◌∷◌}
use mathlib.Core.Bool.{Bool, true, false, not}
use Prim.Native.Nat.{ℕ}
use native.Mathlib.Omega.{arith}
use lib.ListN.{length}
use lib.Dec.{ltb, eqb}
use borrow.Author.Tests.{le-leb, eq-eqb, ne_eqb}
use Rattle.octets.specs.Basics.{pick, and, Row, row, first}
use Rattle.octets.proofs.Choices.{apart}
use Rattle.octets.proofs.Tests.{test}
use Rattle.frames.specs.Frame.{in_range, frame_rows, heading_rows, heading}
use Rattle.frames.proofs.Accepted.{heading_refusal}
use Rattle.frames.specs.declared.Settings.{Settings}
use Rattle.frames.proofs.Wheel.{starts_on_wheel}
use Rattle.extractor.specs.Records.{on_wheel, holds_well, reachable, is_entered, held_in, checked, enter_rows}
use Rattle.extractor.specs.Answers.{refused_enter, enter_answer}
use Rattle.extractor.specs.Walks.{last_in, at_in, reached}
use Rattle.extractor.specs.declared.Extractor.{Extractor}
use Rattle.extractor.specs.declared.Extractor.TheVariants.{Fresh, Astray, InStep, Walking, Leaving}

-- ---- the record

and_yes : (b : Bool) → b ≡ and b true
and_yes true = refl
and_yes false = refl

-- the same test of every record, by its numbers
by_numbers : (s : Settings) (store : List ℕ) (x : Extractor) → reachable s store x ≡ reached s store (last_in x) (held_in x) (at_in x)
unfolding reachable reached holds_well
by_numbers s store Fresh = rw (starts_on_wheel s.link, le-leb 0 s.zone (omega arith)) refl
by_numbers s store (Astray last) = rw (le-leb 0 s.zone (omega arith)) (and_yes _)
by_numbers s store (InStep last h) = ap (and (on_wheel s last)) (test (eqb h 0) (λ t. rw (t, le-leb 0 s.zone (omega arith)) refl) (λ t. rw t refl))
by_numbers s store (Walking last h at) = refl
by_numbers s store (Leaving last) = rw (le-leb 0 s.zone (omega arith)) (and_yes _)

-- and as the code has them
pub reached_by : (s : Settings) (store : List ℕ) (x : Extractor) {last h at : ℕ} {yes : Bool} → last ≡ last_in x → h ≡ held_in x → at ≡ at_in x
    → yes ≡ reached s store last h at → reachable s store x ≡ yes
reached_by s store x l h a e = by_numbers s store x ∙ rw (← l, ← h, ← a) (sym e)

-- ---- the rows

below : (out small lost : Bool) (rows : List Row)
    → first (row 1 out ∷ row 2 small ∷ row 10 lost ∷ rows)
    ≡ (let n : ℕ = first (row 1 out ∷ row 2 small ∷ row 10 lost ∷ []) in pick (eqb n 0) (first rows) n)
unfolding first
below true small lost rows = refl
below false true lost rows = refl
below false false true rows = refl
below false false false rows = refl

-- those of settings, store and record stand above the rest
module _ (s : Settings) (x : Extractor) (store : List ℕ) (rows : List Row) {n : ℕ} (e : n ≡ first (checked s x store [])) where
  rest : first (checked s x store rows) ≡ pick (eqb n 0) (first rows) n
  rest = rw e (below (not (in_range s)) (ltb (length store) s.limit) (not (reachable s store x)) rows)

  pub refused_above : (n ≡ 0 → ⊥) → n ≡ first (checked s x store rows)
  refused_above h = sym (rest ∙ rw (ne_eqb n 0 h) refl)

  pub refused_below : n ≡ 0 → first rows ≡ first (checked s x store rows)
  refused_below h = sym (rest ∙ rw (eq-eqb n 0 h) refl)

module _ (s : Settings) (f : List ℕ) where
  pub heading_row : in_range s ≡ true → first (heading_rows s f) ≡ first (frame_rows s f)
  unfolding first heading_rows
  heading_row t = rw t refl

-- ---- entering

module _ (s : Settings) (x : Extractor) (store f : List ℕ) where
  pub entry_refused : {n : ℕ} → n ≡ first (enter_rows s x store f) → (n ≡ 0 → ⊥) → refused_enter x n ≡ enter_answer s x store f
  unfolding enter_answer
  entry_refused e some = rw (← e, ne_eqb _ 0 some) refl

  pub entry_above : {n : ℕ} → n ≡ first (checked s x store []) → (n ≡ 0 → ⊥) → n ≡ first (enter_rows s x store f)
  unfolding enter_rows
  entry_above e some = refused_above s x store (row 9 (is_entered x) ∷ frame_rows s f) e some

  -- where settings, store and record are not refused
  module _ (none : 0 ≡ first (checked s x store [])) where
    ranged : in_range s ≡ true
    unfolding first
    ranged = test (in_range s) (λ t. t) (λ t. apart (rw t at none))

    pub entry_moment : is_entered x ≡ true → 9 ≡ first (enter_rows s x store f)
    unfolding enter_rows first
    entry_moment t =
        let here : 9 ≡ first (row 9 (is_entered x) ∷ frame_rows s f) = rw t refl in
        here ∙ refused_below s x store (row 9 (is_entered x) ∷ frame_rows s f) none refl

    pub entry_below : {n : ℕ} → is_entered x ≡ false → n ≡ (heading s f).refusal → n ≡ first (enter_rows s x store f)
    unfolding enter_rows first
    entry_below t e =
        let here : first (frame_rows s f) ≡ first (row 9 (is_entered x) ∷ frame_rows s f) = rw t refl in
        e ∙ heading_refusal s f ∙ heading_row s f ranged ∙ here ∙ refused_below s x store (row 9 (is_entered x) ∷ frame_rows s f) none refl

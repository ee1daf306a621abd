-- Tests: which way one went, and two that hold together.
-- Assumes nothing.
use mathlib.Core.Path.{◌≡◌, refl, sym, ap, ap₂, ◌∙◌}
use mathlib.Core.Bool.{Bool, true, false}
use Rattle.octets.specs.Basics.{and, or}

-- a test has gone one way or the other
pub test {ℓ} : {X : Type ℓ} (b : Bool) → (b ≡ true → X) → (b ≡ false → X) → X
test true f g = f refl
test false f g = g refl

pub and_both : {a b : Bool} → a ≡ true → b ≡ true → and a b ≡ true
and_both e f = ap₂ and e f

pub or_none : (b : Bool) → or b false ≡ b
or_none true = refl
or_none false = refl

pub or_all : (b : Bool) → or b true ≡ true
or_all true = refl
or_all false = refl

-- what is told by numbers that can be taken back is determined by them
pub told_apart {ℓ ℓ'} : {A : Type ℓ} {B : Type ℓ'} (f : A → B) (back : B → A) → ((a : A) → back (f a) ≡ a)
    → {a b : A} {x : B} → f a ≡ x → f b ≡ x → a ≡ b
told_apart f back undo {a} {b} p q = sym (undo a) ∙ ap back (p ∙ sym q) ∙ undo b

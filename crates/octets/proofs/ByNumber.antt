-- A refusal is known by its number.
-- Assumes nothing.
use Rattle.std.proofs.Common.{◌≡◌, refl, sym, ap, ◌∙◌, ℕ, ◌<◌, arith, [], ◌∷◌}
use Rattle.std.specs.Prelude.{Result, Ok, Err}
use lib.ListN.{get_or}
use Rattle.octets.specs.declared.refusals.Refusal.{Refusal}
use Rattle.octets.specs.Refusals.{number_of, refusal_of}

-- the refusals at their numbers
abbrev pub named : ℕ → Refusal
named n =
    get_or
    (Refusal.Setting ∷ Refusal.Setting ∷ Refusal.Room ∷ Refusal.Length ∷ Refusal.Version ∷ Refusal.Channel ∷ Refusal.Spare ∷ Refusal.Pointer ∷ Refusal.Packet
    ∷ Refusal.Moment ∷ Refusal.Record ∷ Refusal.Frames ∷ Refusal.Table ∷ Refusal.Trailer ∷ [])
    n Refusal.Setting

pub named_by : (r : Refusal) → named (number_of r) ≡ r
named_by Refusal.Setting = refl
named_by Refusal.Room = refl
named_by Refusal.Length = refl
named_by Refusal.Version = refl
named_by Refusal.Channel = refl
named_by Refusal.Spare = refl
named_by Refusal.Pointer = refl
named_by Refusal.Packet = refl
named_by Refusal.Moment = refl
named_by Refusal.Record = refl
named_by Refusal.Frames = refl
named_by Refusal.Table = refl
named_by Refusal.Trailer = refl

pub number_positive : (r : Refusal) → 0 < number_of r
number_positive Refusal.Setting = omega arith
number_positive Refusal.Room = omega arith
number_positive Refusal.Length = omega arith
number_positive Refusal.Version = omega arith
number_positive Refusal.Channel = omega arith
number_positive Refusal.Spare = omega arith
number_positive Refusal.Pointer = omega arith
number_positive Refusal.Packet = omega arith
number_positive Refusal.Moment = omega arith
number_positive Refusal.Record = omega arith
number_positive Refusal.Frames = omega arith
number_positive Refusal.Table = omega arith
number_positive Refusal.Trailer = omega arith

pub same_number : (a b : Refusal) → number_of a ≡ number_of b → a ≡ b
same_number a b e = sym (named_by a) ∙ ap named e ∙ named_by b

-- no refusal has the number 0
pub refused_not_0 : (r : Refusal) → number_of r ≡ 0 → ⊥
refused_not_0 r e = omega (arith, number_positive r)

pub same_refusal : (a b : Result (Unit {0}) Refusal) → refusal_of a ≡ refusal_of b → a ≡ b
same_refusal (Ok u) (Ok v) e = refl
same_refusal (Ok u) (Err r) e = absurd (refused_not_0 r (sym e))
same_refusal (Err r) (Ok u) e = absurd (refused_not_0 r e)
same_refusal (Err r) (Err q) e = ap Err (same_number r q e)

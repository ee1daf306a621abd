-- The answer in numbers tells the answers apart: two outcomes that meet a promise are equal.
-- Assumes nothing.
use mathlib.Core.Path.{◌≡◌, refl, ap}
use Rattle.std.specs.Prelude.{Result, Ok, Err}
use Rattle.octets.specs.Basics.{pick}
use Rattle.octets.specs.declared.refusals.Refusal.{Refusal}
use Rattle.octets.proofs.ByNumber.{named, named_by}
use Rattle.octets.proofs.Tests.{told_apart}
use Rattle.space.specs.declared.SpaceHeader.{SpaceHeader}
use Rattle.space.specs.Space.{SpaceReading, space_reads}

space_back : SpaceReading → Result SpaceHeader Refusal
space_back r = pick r.accepted (Ok r.header) (Err (named r.refusal))

space_undo : (r : Result SpaceHeader Refusal) → space_back (space_reads r) ≡ r
unfolding space_back space_reads
space_undo (Err refusal) = ap Err (named_by refusal)
space_undo (Ok header) = refl

pub space_determined : {a b : Result SpaceHeader Refusal} {x : SpaceReading} → space_reads a ≡ x → space_reads b ≡ x → a ≡ b
space_determined = told_apart space_reads space_back space_undo

-- What is written where it fits is accepted.
-- Assumes nothing.
use Rattle.std.proofs.Common.{◌≡◌, refl, ap, ◌∙◌, ℕ, ◌+◌, ◌-◌, ◌≤◌, List, length, Bool, true}
use Rattle.std.specs.Prelude.{Result, Ok, Err, IsOk}
use borrow.Author.Tests.{le-leb}
use Rattle.octets.specs.Basics.{pick, part_fits}
use Rattle.octets.specs.declared.refusals.Refusal.{Refusal}
use Rattle.octets.specs.Refusals.{refusal_of}
use Rattle.octets.proofs.ByNumber.{refused_not_0}
use Rattle.octets.proofs.Tests.{and_both}

pub accepted : (r : Result (Unit {0}) Refusal) {room : Bool} → refusal_of r ≡ pick room 0 2 → room ≡ true → IsOk r
accepted (Ok u) e t = refl
accepted (Err q) e t = absurd (refused_not_0 q (e ∙ ap (λ (b : Bool). pick b 0 2) t))

pub part_there : (buffer : List ℕ) (at from to : ℕ) (os : List ℕ) → from ≤ to → to ≤ length os → at + (to - from) ≤ length buffer
    → part_fits buffer at from to os ≡ true
part_there buffer at from to os h k l = and_both (and_both (le-leb from to h) (le-leb to (length os) k)) (le-leb (at + (to - from)) (length buffer) l)

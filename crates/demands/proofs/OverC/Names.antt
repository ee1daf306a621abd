-- What a step's answer names in its frame or its store.
-- Assumes nothing.
use mathlib.Core.Path.{◌≡◌, refl}
use mathlib.Core.List.{List, [], ◌∷◌}
use mathlib.Core.Bool.{Bool, true}
use Prim.Native.Nat.{ℕ, ◌+◌, ◌≤◌}
use native.Mathlib.Omega.{arith}
use lib.ListN.{length}
use lib.Seq.{length-take-le}
use lib.Dec.{leb, eqb}
use borrow.Author.Tests.{leb-true, le-leb, eqb-true}
use Rattle.octets.specs.Basics.{part_of, first}
use Rattle.octets.proofs.Tests.{test}
use Rattle.packets.proofs.Grown.{look_bounds}
use Rattle.frames.specs.Frame.{in_range}
use Rattle.frames.specs.declared.Settings.{Settings}
use Rattle.frames.proofs.Settled.{settled}
use Rattle.extractor.specs.Records.{step_rows, Stepped, step_call, shown}
use Rattle.extractor.specs.Answers.{found_numbers}
use Rattle.extractor.specs.declared.Extractor.{Extractor}
use Rattle.extractor.specs.Found.{Found, Refused, InFrame, InStore, Damaged, Spent}
use Rattle.extractor.proofs.Places.{ahead}
use Rattle.extractor.proofs.Turns.{Packed, framed, stored, Turn, leave, keep, break, give, turn}
use Rattle.extractor.proofs.Unrefused.{moves}
use Rattle.arrays.specs.Arrays.{told}
use Rattle.exports.specs.Extract.{step_numbers}
use Rattle.demands.specs.OverC.Listening.{octets_named, Inside}
use Rattle.demands.proofs.OverC.Arrays.{told_front}

-- the part that is found lies inside
abbrev pub Within : List ℕ → List ℕ → Found → Type 0
Within f store (Refused n) = Unit {0}
Within f store (InFrame start size idle) = start + size ≤ length f
Within f store (InStore size idle) = size ≤ length store
Within f store (Damaged d) = Unit {0}
Within f store Spent = Unit {0}

-- a part that has an octet is inside
part_inside : (os : List ℕ) (start size : ℕ) → 1 ≤ length (part_of os start size) → start + size ≤ length os
unfolding part_of
part_inside os start size h =
    test (leb (start + size) (length os)) (λ t. leb-true _ _ t) (λ t. absurd (omega (arith, rw t at h)))

packed_within : (f store : List ℕ) {a : Found} {idle : Bool} → Packed a idle → 1 ≤ length (shown f store a) → Within f store a
unfolding shown
packed_within f store (framed {start} {size}) h = part_inside f start size h
packed_within f store (stored {size}) h = omega (arith, part_inside store 0 size h)

turn_within : (s : Settings) (f store : List ℕ) {x : Extractor} {w : Stepped} → in_range s ≡ true → Turn s f store x w → Within f w.store w.found
turn_within s f store ok leave = tt
turn_within s f store ok (keep b l) = tt
turn_within s f store ok (break d l) = tt
turn_within s f store ok (give {h = h} {at = at} {l = l} {st = st} p whole fits shows rest more inside same far) =
    let some = look_bounds s.limit (ahead s f store h at) (omega (arith, settled s ok)) whole in
    packed_within f st p (rw (shows, length-take-le l (ahead s f store h at) fits) some.0)

-- whatever a step finds, refused or not, whatever it was lent
pub step_within : (s : Settings) (x : Extractor) (store f : List ℕ) → Within f (step_call s x store f).store (step_call s x store f).found
unfolding step_call
step_within s x store f =
    let n : ℕ = first (step_rows s x store f) in
    test (eqb n 0)
    (λ t.
    let m = moves s x store f (eqb-true n 0 t) in
    rw t (turn_within s f store m.ranged (turn s f store m.ranged m.framed m.room x m.reached m.underway)))
    (λ t. rw t tt)

module _ (f store answer : List ℕ) (h : 5 ≤ length answer) where
  -- the octets that are named are those that `show` hands back
  pub named_shown : (a : Found) → Within f store a → octets_named f store (told answer (step_numbers (found_numbers f store a))) ≡ shown f store a
  unfolding found_numbers step_numbers shown part_of
  named_shown (Refused n) w = rw (told_front answer (0 ∷ 0 ∷ 0 ∷ 0 ∷ 0 ∷ []) h) refl
  named_shown (InFrame start size idle) w = rw (told_front answer (_ ∷ 1 ∷ start ∷ size ∷ 0 ∷ []) h, le-leb _ _ w) refl
  named_shown (InStore size idle) w = rw (told_front answer (_ ∷ 2 ∷ 0 ∷ size ∷ 0 ∷ []) h, le-leb (0 + size) (length store) (omega arith)) refl
  named_shown (Damaged d) w = rw (told_front answer (3 ∷ 0 ∷ 0 ∷ 0 ∷ d ∷ []) h) refl
  named_shown Spent w = rw (told_front answer (4 ∷ 0 ∷ 0 ∷ 0 ∷ 0 ∷ []) h) refl

  nowhere : (n : ℕ) (rest : List ℕ) → Inside f store (n ∷ 0 ∷ 0 ∷ 0 ∷ rest)
  nowhere n rest = record { in_frame = λ e. absurd (omega arith); in_store = λ e. absurd (omega arith) }

  pub named_inside : (a : Found) → Within f store a → Inside f store (told answer (step_numbers (found_numbers f store a)))
  unfolding found_numbers step_numbers
  named_inside (Refused n) w = rw (told_front answer (0 ∷ 0 ∷ 0 ∷ 0 ∷ 0 ∷ []) h) (nowhere 0 _)
  named_inside (InFrame start size idle) w =
      rw (told_front answer (_ ∷ 1 ∷ start ∷ size ∷ 0 ∷ []) h) (record { in_frame = λ e. w; in_store = λ e. absurd (omega arith) })
  named_inside (InStore size idle) w =
      rw (told_front answer (_ ∷ 2 ∷ 0 ∷ size ∷ 0 ∷ []) h) (record { in_frame = λ e. absurd (omega arith); in_store = λ e. omega arith })
  named_inside (Damaged d) w = rw (told_front answer (3 ∷ 0 ∷ 0 ∷ 0 ∷ d ∷ []) h) (nowhere 3 _)
  named_inside Spent w = rw (told_front answer (4 ∷ 0 ∷ 0 ∷ 0 ∷ 0 ∷ []) h) (nowhere 4 _)

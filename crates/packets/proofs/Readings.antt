-- What well-formed says, and what a whole header tells.
-- Assumes nothing.
use mathlib.Core.Path.{◌≡◌, refl, ap, ◌∙◌}
use mathlib.Core.Logic.{⊎_elim}
use mathlib.Core.List.{List, [], ◌∷◌, ◌++◌}
use mathlib.Core.Bool.{true}
use Prim.Native.Nat.{ℕ, ◌≤◌}
use native.Mathlib.Omega.{arith}
use lib.ListN.{length, take}
use lib.Seq.{take-append-le}
use borrow.Author.Tests.{eqb-true, eq-eqb}
use Rattle.octets.proofs.Choices.{apart}
use Rattle.packets.specs.Packet.{Look, more, damaged, whole, look, WellFormed, states, well_formed, packet_version, key_of, is_idle, size_of}
use Rattle.packets.specs.Header.{told}
use Rattle.packets.proofs.Looks.{look_kind}

-- ---- the test and the statement

pub formed_test : (limit : ℕ) (p : List ℕ) → WellFormed limit p → well_formed limit p ≡ true
unfolding well_formed states
formed_test limit p e = ap (states (length p)) e ∙ eq-eqb (length p) (length p) refl

pub test_formed : (limit : ℕ) (p : List ℕ) → well_formed limit p ≡ true → WellFormed limit p
unfolding well_formed states
test_formed limit p = go (look limit p)
  where
    go : (a : Look) → states (length p) a ≡ true → a ≡ whole (length p)
    go more e = cc
    go (damaged d) e = cc
    go (whole l) e = ap whole (eqb-true l (length p) e)

-- ---- octets behind a whole header change nothing of what it tells

pub told-append : (limit : ℕ) (xs ys : List ℕ) {l : ℕ} → look limit xs ≡ whole l → told (xs ++ ys) (whole l) ≡ told xs (whole l)
unfolding look told key_of is_idle size_of
told-append limit [] ys e = apart (cc)
told-append limit (x ∷ xs) ys {l} e = ⊎_elim space other (look_kind limit (x ∷ xs) e)
  where
    space : (packet_version x ≡ 0) × (6 ≤ length (x ∷ xs)) → told (x ∷ xs ++ ys) (whole l) ≡ told (x ∷ xs) (whole l)
    space k =
        let same : take 2 (x ∷ xs ++ ys) ≡ take 2 (x ∷ xs) = take-append-le 2 (x ∷ xs) ys (omega arith) in
        rw same refl

    other : packet_version x ≡ 7 → told (x ∷ xs ++ ys) (whole l) ≡ told (x ∷ xs) (whole l)
    other v = rw v refl

-- Octets that begin a packet: what is said of them, and of them with more behind.
-- Assumes nothing.
use mathlib.Core.Path.{◌≡◌, sym, ap, subst, ◌∙◌}
use mathlib.Core.Logic.{◌⊎◌, inl, inr}
use mathlib.Core.List.{List, [], ◌∷◌, ◌++◌}
use Prim.Native.Nat.{ℕ, ◌≤◌, ◌<◌}
use native.Mathlib.Omega.{arith}
use lib.ListN.{length, take, drop, take-append-drop}
use lib.Seq.{length-take-le, take-append-le}
use Rattle.octets.proofs.Choices.{apart}
use Rattle.packets.specs.Packet.{more, damaged, whole, look, is_idle}
use Rattle.packets.specs.Header.{told}
use Rattle.packets.proofs.Grown.{Bounded, look_bounded, look_grown, look-take, look_front}
use Rattle.packets.proofs.Readings.{told-append}

-- a header has eight octets at most
pub more_short : (limit : ℕ) (os : List ℕ) → 1 ≤ limit → look limit os ≡ more → length os < 8
more_short limit os room e = subst (Bounded limit (length os)) e (look_bounded limit os room)

-- a packet is longer than the octets that did not tell its length
pub more_then_whole : (limit : ℕ) (xs ys : List ℕ) {l : ℕ} → 1 ≤ limit → look limit xs ≡ more → look limit (xs ++ ys) ≡ whole l → length xs < l
more_then_whole limit xs ys room e w = (look_grown limit xs ys room).short e w

-- damage needs an octet
pub damaged_some : (limit : ℕ) (os : List ℕ) {d : ℕ} → look limit os ≡ damaged d → 1 ≤ length os
unfolding look
damaged_some limit [] e = apart (cc)
damaged_some limit (o ∷ os) e = omega arith

-- and no octets behind it mend it
pub damaged-append : (limit : ℕ) (xs ys : List ℕ) {d : ℕ} → 1 ≤ limit → look limit xs ≡ damaged d → look limit (xs ++ ys) ≡ damaged d
damaged-append limit xs ys {d} room e = go (look_grown limit xs ys room).settled
  where
    go : (look limit xs ≡ more) ⊎ (look limit (xs ++ ys) ≡ look limit xs) → look limit (xs ++ ys) ≡ damaged d
    go (inl m) = cc
    go (inr q) = q ∙ e

-- a packet and all octets that begin with it are idle alike
pub idle_begun : (limit : ℕ) (os ys : List ℕ) {l : ℕ} → 1 ≤ limit → look limit os ≡ whole l → l ≤ length os → take l ys ≡ take l os
    → is_idle ys ≡ is_idle (take l os)
unfolding told
idle_begun limit os ys {l} room e fits same =
    let formed : look limit (take l os) ≡ whole l = look-take limit l os room e fits ∙ ap whole (length-take-le l os fits) in
    sym (ap is_idle (ap (λ (xs : List ℕ). xs ++ drop l ys) (sym same) ∙ take-append-drop l ys))
    ∙ ap (λ r. r.idle) (told-append limit (take l os) (drop l ys) formed)

-- ---- a header has eight octets at most

-- octets behind the first eight change nothing of what they say of the length
pub look_eight : (limit : ℕ) (os ys : List ℕ) → 1 ≤ limit → 8 ≤ length os → look limit os ≡ look limit (os ++ ys)
look_eight limit os ys room h =
    sym (look_front limit os room) ∙ ap (look limit) (sym (take-append-le 8 os ys h)) ∙ look_front limit (os ++ ys) room

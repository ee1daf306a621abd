-- A packet of any length that a limit allows.
-- Assumes nothing.
use mathlib.Core.Path.{◌≡◌, refl, ap, ◌∙◌}
use mathlib.Core.List.{List, [], ◌∷◌, ◌++◌}
use mathlib.Core.Bool.{Bool, true, false}
use Prim.Native.Nat.{ℕ, suc, ◌+◌, ◌-◌, ◌≤◌}
use native.Mathlib.Omega.{arith}
use lib.ListN.{length, replicate, length-replicate}
use lib.Dec.{leb, eqb, lit<}
use borrow.Author.Tests.{leb-true}
use Rattle.octets.specs.Basics.{pick, AllOctets, number, octets, part}
use Rattle.words.specs.Fields.{field}
use Rattle.octets.proofs.Choices.{split}
use Rattle.octets.proofs.Fronts.{all_append, all_zeros, all_octets}
use Rattle.octets.proofs.Numbers.{number_octets}
use Rattle.packets.specs.Packet.{counted, space, look, WellFormed}
use Rattle.wrapping.specs.Idle.{idle_header, idle_packet}
use Rattle.wrapping.proofs.Idles.{idle-length, idle_formed}
use Rattle.packets.proofs.Looks.{counted_whole}

pub record Sample (limit l : ℕ) : Type 0 where
  pub packet : List ℕ
  pub small : AllOctets packet
  pub long : length packet ≡ l
  pub formed : WellFormed limit packet

idle_small : (r : ℕ) → AllOctets (idle_packet 0 r)
unfolding idle_packet idle_header
idle_small r =
    let rest : ℕ = r - length (idle_header r) in
    all_append (idle_header r) (replicate rest 0) (go (eqb r 1) (leb r 255) refl) (all_zeros rest)
  where
    go : (a b : Bool) → leb r 255 ≡ b → AllOctets (pick a (0xE0 ∷ []) (pick b (0xE1 ∷ r ∷ []) (0xE2 ∷ 0 ∷ octets 2 r)))
    go true b e = (lit< tt, tt)
    go false true e = let low : r ≤ 255 = leb-true r 255 e in (lit< tt, (omega arith, tt))
    go false false e = (lit< tt, (lit< tt, all_octets 2 r))

-- a space packet, where an idle packet's header cannot state the length
space_sample : (limit l : ℕ) → 7 ≤ l → l ≤ limit → limit ≤ 65542 → Sample limit l
unfolding look space field part octets
space_sample limit l h k m =
    let unit : List ℕ = replicate (l - 6) 0 in
    let long : length unit ≡ l - 6 = length-replicate (l - 6) 0 in
    let total : ℕ = suc (suc (suc (suc (suc (suc (length unit)))))) in
    let stated : number (octets 2 (l - 7)) + 7 ≡ total = omega (arith, number_octets 2 (l - 7) (omega arith)) in
    record {
      packet = 0 ∷ 0 ∷ 0 ∷ 0 ∷ (octets 2 (l - 7) ++ unit);
      small = all_append (0 ∷ 0 ∷ 0 ∷ 0 ∷ octets 2 (l - 7)) unit (omega (arith, all_octets 2 (l - 7))) (all_zeros (l - 6));
      long = omega arith;
      formed = ap (counted limit total 6) stated ∙ counted_whole limit total 6 total (omega arith) (omega arith) (omega arith);
    }

pub sample : (limit l : ℕ) → 1 ≤ l → l ≤ limit → limit ≤ 65542 → Sample limit l
sample limit l h k m =
    split l 65535
    (λ short. record {
      packet = idle_packet 0 l;
      small = idle_small l;
      long = idle-length 0 l h;
      formed = idle_formed 0 l h limit k (omega arith);
    })
    (λ far. space_sample limit l (omega arith) k m)

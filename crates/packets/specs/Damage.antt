-- What can be wrong with a packet's header: a test for each, over the octets that are there and the limit.
use Rattle.std.specs.Prelude.{ℕ, ◌+◌, ◌/◌, ◌↔◌, ◌≡◌, List, [], ◌∷◌, Bool, true, false, Option, None, Some, not, length, leb, ltb, eqb}
use Rattle.octets.specs.Basics.{pick, and, number, part}
use Rattle.packets.specs.Packet.{limit_in_range, damaged, look, packet_version, protocol_of, length_of_length, size_of}
use Rattle.packets.specs.declared.damage.Damage.{Damage}

-- the number of each
abbrev pub damage_number : Damage → ℕ
damage_number Damage.Version = 1
damage_number Damage.NotIdle = 2
damage_number Damage.BelowHeader = 3
damage_number Damage.OverLimit = 4

-- 0 where nothing is wrong
abbrev pub damage_or_0 : Option Damage → ℕ
damage_or_0 None = 0
damage_or_0 (Some d) = damage_number d

-- whether there is a first octet, and it is so
abbrev pub first_is : (ℕ → Bool) → List ℕ → Bool
first_is so [] = false
first_is so (o ∷ os) = so o

-- the two kinds of packet: version 000, and version 111
abbrev pub is_space : List ℕ → Bool
is_space os = first_is (λ o. eqb (packet_version o) 0) os

abbrev pub is_encapsulation : List ℕ → Bool
is_encapsulation os = first_is (λ o. eqb (packet_version o) 7) os

-- 1: the version is neither of them
unfoldable pub wrong_version : List ℕ → Bool
wrong_version os = first_is (λ o. and (not (eqb (packet_version o) 0)) (not (eqb (packet_version o) 7))) os

-- 2: an encapsulation packet has a header of one octet, and its protocol is not that of idle packets
unfoldable pub not_idle : List ℕ → Bool
not_idle os = and (is_encapsulation os) (first_is (λ o. and (eqb (length_of_length o) 0) (not (eqb (protocol_of o) 0))) os)

-- an encapsulation packet's header is whole, and the length that it states, in its second half, is so; a header of one octet states none
unfoldable pub states_length : (ℕ → Bool) → List ℕ → Bool
states_length so os =
    let size : ℕ = size_of os in
    and (is_encapsulation os)
    (and (leb 2 size)
    (and (leb size (length os)) (so (number (part (size / 2) size os)))))

-- 3: that length is below the header's own
unfoldable pub below_its_header : List ℕ → Bool
below_its_header os = states_length (λ total. ltb total (size_of os)) os

-- 4: it is over the limit; so is a space packet's, 7 more than the last two of its header's six octets say
unfoldable pub over_limit : ℕ → List ℕ → Bool
over_limit limit os =
    pick (is_space os) (and (leb 6 (length os)) (ltb limit (number (part 4 6 os) + 7))) (states_length (λ total. ltb limit total) os)

-- whether the damage of a number applies; there is none but these four
unfoldable pub applies : ℕ → List ℕ → ℕ → Bool
applies limit os d =
    pick (eqb d 1) (wrong_version os)
    (pick (eqb d 2) (not_idle os)
    (pick (eqb d 3) (below_its_header os)
    (and (eqb d 4) (over_limit limit os))))

-- At most one applies, and the header is damaged so exactly when it does.
pub record Named (limit : ℕ) (os : List ℕ) : Type 0 where
  pub at_most_one : (d e : ℕ) → applies limit os d ≡ true → applies limit os e ≡ true → d ≡ e
  pub exactly : (d : ℕ) → (look limit os ≡ damaged d) ↔ (applies limit os d ≡ true)

-- so it is at every limit that can be set
abbrev pub DamageNamed : Type 0
DamageNamed = (limit : ℕ) (os : List ℕ) → limit_in_range limit ≡ true → Named limit os

-- a number says what is wrong with a header: it is that of the damage that applies, and 0 where none does
pub record Tells (limit : ℕ) (os : List ℕ) (n : ℕ) : Type 0 where
  pub named : (d : ℕ) → applies limit os d ≡ true → n ≡ d
  pub none : ((d : ℕ) → applies limit os d ≡ false) → n ≡ 0

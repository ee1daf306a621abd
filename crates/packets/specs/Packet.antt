-- Space packets and encapsulation packets: what the first octets of one say.
use Rattle.std.specs.Prelude.{ℕ, zero, suc, ◌+◌, ◌/◌, ◌≤◌, ◌≡◌, ◌⊎◌, List, [], ◌∷◌, ◌++◌, Bool, false, length, take, get_or, leb, ltb, eqb}
use Rattle.octets.specs.Basics.{pick, and, number, part}
use Rattle.words.specs.Fields.{field}

-- the limits that can be set, each the length of the greatest packet
unfoldable pub limit_in_range : ℕ → Bool
limit_in_range limit = and (leb 7 limit) (leb limit 65542)

-- what octets that begin a packet say: the header is not whole yet; it is damaged, 1 to 4 says how; the packet has so many octets
-- in all
pub data Look : Type 0 where
  more : Look
  damaged : ℕ → Look
  whole : ℕ → Look

-- a header of `size` octets is whole and states `total`, which is below it, over the limit, or the packet's
unfoldable pub sized : ℕ → ℕ → ℕ → Look
sized limit size total = pick (ltb total size) (damaged 3) (pick (ltb limit total) (damaged 4) (whole total))

-- the same where so many octets are there
unfoldable pub counted : ℕ → ℕ → ℕ → ℕ → Look
counted limit len size total = pick (ltb len size) more (sized limit size total)

-- a space packet: the last two of the header's six octets are the length field, and the total is 7 more
unfoldable pub space : ℕ → List ℕ → Look
space limit os = counted limit (length os) 6 (number (part 4 6 os) + 7)

-- the header's length for the length-of-length field
unfoldable pub header_length : ℕ → ℕ
header_length zero = 1
header_length (suc zero) = 2
header_length (suc (suc zero)) = 4
header_length (suc (suc (suc n))) = 8

-- an encapsulation packet: the total stands in the header's second half; a header of one octet states none, and is idle
unfoldable pub encapsulation : ℕ → ℕ → ℕ → List ℕ → Look
encapsulation limit protocol zero os = pick (eqb protocol 0) (whole 1) (damaged 2)
encapsulation limit protocol (suc n) os =
    let size : ℕ = header_length (suc n) in
    counted limit (length os) size (number (part (size / 2) size os))

-- the fields of a packet's first octet
abbrev pub packet_version : ℕ → ℕ
packet_version o = field o 5 3

abbrev pub protocol_of : ℕ → ℕ
protocol_of o = field o 2 3

abbrev pub length_of_length : ℕ → ℕ
length_of_length o = field o 0 2

-- a packet's first octet tells its kind, or is damage
unfoldable pub look : ℕ → List ℕ → Look
look limit [] = more
look limit (o ∷ os) =
    pick (eqb (packet_version o) 0) (space limit (o ∷ os))
    (pick (eqb (packet_version o) 7) (encapsulation limit (protocol_of o) (length_of_length o) (o ∷ os))
    (damaged 1))

-- nothing is wrong with a header
abbrev pub Undamaged : Look → Type 0
Undamaged l = (d : ℕ) → l ≡ damaged d → ⊥

-- what is wrong with it, 0 where nothing is
unfoldable pub damage_in : Look → ℕ
damage_in more = 0
damage_in (damaged d) = d
damage_in (whole total) = 0

-- what a refusal says of the packet that was lent: with 8 what is wrong with its header, with any other number nothing
unfoldable pub carried : ℕ → ℕ → List ℕ → ℕ
carried refusal limit p = pick (eqb refusal 8) (damage_in (look limit p)) 0

-- a packet is well formed where its header says its own length
abbrev pub WellFormed : ℕ → List ℕ → Type 0
WellFormed limit p = look limit p ≡ whole (length p)

-- whether a packet of n octets is stated
unfoldable pub states : ℕ → Look → Bool
states n more = false
states n (damaged d) = false
states n (whole l) = eqb l n

-- the same as a test
unfoldable pub well_formed : ℕ → List ℕ → Bool
well_formed limit p = states (length p) (look limit p)

-- a space packet's APID
abbrev pub apid : List ℕ → ℕ
apid p = field (number (take 2 p)) 0 11

-- a choice by the kind of packet: for a space packet, and for an encapsulation packet
abbrev pub by_kind {ℓ} : {A : Type ℓ} → List ℕ → A → A → A
by_kind p a b = pick (eqb (packet_version (get_or p 0 0)) 0) a b

-- APID 2,047, or protocol 0
unfoldable pub is_idle : List ℕ → Bool
is_idle p = by_kind p (eqb (apid p) 2047) (eqb (protocol_of (get_or p 0 0)) 0)

-- the APID, or the protocol
unfoldable pub key_of : List ℕ → ℕ
key_of p = by_kind p (apid p) (protocol_of (get_or p 0 0))

-- the header's own length
unfoldable pub size_of : List ℕ → ℕ
size_of p = by_kind p 6 (header_length (length_of_length (get_or p 0 0)))

-- what begins a packet whose header is whole: a space packet's six octets at least, or an encapsulation packet
abbrev pub OfAKind : List ℕ → Type 0
OfAKind os = ((packet_version (get_or os 0 0) ≡ 0) × (6 ≤ length os)) ⊎ (packet_version (get_or os 0 0) ≡ 7)

-- the octets of packets laid end to end
abbrev pub end_to_end : List (List ℕ) → List ℕ
end_to_end [] = []
end_to_end (p ∷ ps) = p ++ end_to_end ps

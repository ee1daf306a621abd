-- The settings, frames and packets that the examples are made of.
use Rattle.std.specs.Prelude.{ℕ, zero, suc, List, [], ◌∷◌, map, Bool, true, false, replicate}
use Rattle.frames.specs.Editions.{settings_by, bit_settings_by}
use Rattle.frames.specs.declared.Edition.{Edition}
use Rattle.frames.specs.declared.Edition.TheVariants.{Former}
use Rattle.frames.specs.declared.Settings.{Settings}
use Rattle.frames.specs.declared.bits.BitSettings.{BitSettings}

-- settings of a packet channel by spacecraft, channel, Z and M, and of a bitstream channel by spacecraft, channel and W
abbrev pub set : ℕ → ℕ → ℕ → ℕ → Settings
set spacecraft channel zone limit =
    record { link = record { spacecraft = spacecraft; channel = channel; trailed = false; edition = Former }; zone = zone; limit = limit; fill = 0x55 }

abbrev pub set_bits : ℕ → ℕ → ℕ → BitSettings
set_bits spacecraft channel width = record { link = record { spacecraft = spacecraft; channel = channel; trailed = false; edition = Former }; width = width; fill = 0x55 }

-- spacecraft 66, channel 3, Z = 10, M = 12; the same with Z = 0; and the least zone and limit
abbrev pub small : Settings
small = set 66 3 10 12

abbrev pub broken : Settings
broken = set 66 3 0 12

abbrev pub least : Settings
least = set 66 3 1 7

-- spacecraft 66, channel 3, W = 2; and the same with W = 0
abbrev pub two_octets : BitSettings
two_octets = set_bits 66 3 2

abbrev pub no_octets : BitSettings
no_octets = set_bits 66 3 0

-- both at each edition
abbrev pub small_by : Edition → Settings
small_by e = settings_by e small

abbrev pub two_by : Edition → BitSettings
two_by e = bit_settings_by e two_octets

-- the same settings with trailers, and without
abbrev pub trailing : Bool → Settings → Settings
trailing on s =
    record { link = record { spacecraft = s.link.spacecraft; channel = s.link.channel; trailed = on; edition = s.link.edition }; zone = s.zone; limit = s.limit; fill = s.fill }

abbrev pub bit_trailing : Bool → BitSettings → BitSettings
bit_trailing on s =
    record { link = record { spacecraft = s.link.spacecraft; channel = s.link.channel; trailed = on; edition = s.link.edition }; width = s.width; fill = s.fill }

-- both with trailers
abbrev pub small_trailed : Settings
small_trailed = trailing true small

abbrev pub two_trailed : BitSettings
two_trailed = bit_trailing true two_octets

-- a frame of that channel: the last octet of its count, the two octets of its zone's header, and its zone
abbrev pub frame : ℕ → ℕ → ℕ → List ℕ → List ℕ
frame count high low zone = 0x50 ∷ 0x83 ∷ 0x00 ∷ 0x00 ∷ count ∷ 0x00 ∷ high ∷ low ∷ zone

-- headers in which less and less is wrong: version 11; another spacecraft and channel; spare bits that are 1; pointer 15, which
-- neither Z = 10 nor W = 2 has a use for
abbrev pub wrong_headers : List (List ℕ)
wrong_headers =
    (0xFF ∷ 0xFF ∷ 0x00 ∷ 0x00 ∷ 0x00 ∷ 0x7F ∷ 0xF8 ∷ 0x0F ∷ [])
    ∷ (0x7F ∷ 0xFF ∷ 0x00 ∷ 0x00 ∷ 0x00 ∷ 0x7F ∷ 0xF8 ∷ 0x0F ∷ [])
    ∷ (0x50 ∷ 0x83 ∷ 0x00 ∷ 0x00 ∷ 0x00 ∷ 0x7F ∷ 0xF8 ∷ 0x0F ∷ [])
    ∷ (0x50 ∷ 0x83 ∷ 0x00 ∷ 0x00 ∷ 0x00 ∷ 0x00 ∷ 0x00 ∷ 0x0F ∷ [])
    ∷ []

-- so many octets that are lent
abbrev pub lent : ℕ → List ℕ
lent n = replicate n 0xFF

-- a space packet of ten octets, and one of seven
abbrev pub ten : List ℕ
ten = 0x00 ∷ 0x05 ∷ 0xC0 ∷ 0x00 ∷ 0x00 ∷ 0x03 ∷ 0xA1 ∷ 0xA2 ∷ 0xA3 ∷ 0xA4 ∷ []

abbrev pub seven : List ℕ
seven = 0x00 ∷ 0x05 ∷ 0xC0 ∷ 0x00 ∷ 0x00 ∷ 0x00 ∷ 0xA1 ∷ []

-- so many numbers from n on
abbrev pub from : ℕ → ℕ → List ℕ
from n zero = []
from n (suc k) = n ∷ from (suc n) k

-- the same for each of a list
abbrev pub each : {A B : Type 0} → List A → B → List B
each l b = map (λ a. b) l

-- The editions of the frame header: CCSDS 701.0-B-2 (`Former`), and CCSDS 732.0-B-3 with count usage 0 (`CycleUnused`) or 1 (`CycleUsed`).
-- They differ in the seven bits of the signalling octet below the replay flag, and in the width of the count.
use Rattle.std.specs.Prelude.{ℕ, ◌+◌, ◌*◌, ◌/◌, ◌^◌, Bool, true, false, ◌==◌}
use Rattle.octets.specs.Basics.{and, or}
use Rattle.words.specs.Fields.{read, write}
use Rattle.words.specs.declared.Place.{Place}
use Rattle.frames.specs.declared.Edition.{Edition}
use Rattle.frames.specs.declared.Edition.TheVariants.{Former, CycleUnused, CycleUsed}

-- the count's own three octets
abbrev pub own_width : ℕ
own_width = 24

abbrev pub count_place : Place
count_place = record { below = 8; width = own_width }

-- the signalling octet behind them: the replay flag, and in 701.0-B-2 seven spare bits
abbrev pub replay_place : Place
replay_place = record { below = 7; width = 1 }

abbrev pub seven_place : Place
seven_place = record { below = 0; width = 7 }

-- in 732.0-B-3 usage 1 bit, spare 2 bits and cycle 4 bits
abbrev pub usage_place : Place
usage_place = record { below = 6; width = 1 }

abbrev pub spare_place : Place
spare_place = record { below = 4; width = 2 }

abbrev pub cycle_place : Place
cycle_place = record { below = 0; width = 4 }

-- whether it is that of 701.0-B-2
abbrev pub is_former : Edition → Bool
is_former Former = true
is_former CycleUnused = false
is_former CycleUsed = false

-- the usage flag of a channel's frames; in 701.0-B-2 it is a spare bit, and 0
unfoldable pub usage : Edition → ℕ
usage Former = 0
usage CycleUnused = 0
usage CycleUsed = 1

-- how many bits the cycle adds to the count: its four with usage 1, and none with usage 0
unfoldable pub cycle_width : Edition → ℕ
cycle_width e = usage e * cycle_place.width

-- where these bits stand, at the octet's foot
abbrev pub cycle_at : Edition → Place
cycle_at e = record { below = cycle_place.below; width = cycle_width e }

-- the count of a frame, by the number of its header: the cycle stands above the count's own octets
unfoldable pub count_in : Edition → ℕ → ℕ
count_in e head = read (cycle_at e) head * 2 ^ own_width + read count_place head

-- 732.0-B-3: the usage is the one that is set, the spare bits are 0, and with usage 0 the cycle is 0 too
unfoldable pub used_as : ℕ → ℕ → Bool
used_as set head =
    and (read usage_place head == set) (and (read spare_place head == 0) (or (set == 1) (read cycle_place head == 0)))

-- whether the seven bits below the replay flag are as the edition has them: in 701.0-B-2 each of them is 0
unfoldable pub signals : Edition → ℕ → Bool
signals Former head = read seven_place head == 0
signals CycleUnused head = used_as 0 head
signals CycleUsed head = used_as 1 head

-- the signalling octet of the frame with this count and replay flag: the bits of the count above its own octets are the cycle
unfoldable pub signalling : Edition → ℕ → ℕ → ℕ
signalling e c r = write (cycle_at e) (c / 2 ^ own_width) (write usage_place (usage e) (write replay_place r 0))

-- Sample passes 2 to 7: what is said of each frame of a run, from a fresh extractor on; at each edition of the header.
use Rattle.std.specs.Prelude.{ℕ, ◌+◌, ◌/◌, true, false, ◌≡◌, List, [], ◌∷◌, ◌++◌, replicate}
use Rattle.octets.specs.Basics.{octets}
use Rattle.frames.specs.declared.Edition.{Edition}
use Rattle.frames.specs.declared.Edition.TheVariants.{Former, CycleUnused, CycleUsed}
use Rattle.frames.specs.declared.Settings.{Settings}
use Rattle.extractor.specs.Extract.{fresh, Event, packet, idle, torn, Told, refused, taken, told}

-- Z = 10, M = 1,024
abbrev pub sample : Edition → Settings
sample e = record { link = record { spacecraft = 66; channel = 3; trailed = false; edition = e }; zone = 10; limit = 1024; fill = 0x55 }

-- the greatest count, and the signalling octet of a frame with this count
abbrev pub greatest : Edition → ℕ
greatest Former = 16777215
greatest CycleUnused = 16777215
greatest CycleUsed = 268435455

abbrev pub signal : Edition → ℕ → ℕ
signal Former c = 0x00
signal CycleUnused c = 0x00
signal CycleUsed c = 0x40 + c / 16777216

-- a frame of the channel with this count, signalling octet, pointer and zone, octet by octet
abbrev pub with_signal : ℕ → ℕ → ℕ → List ℕ → List ℕ
with_signal c o p z = (0x50 ∷ 0x83 ∷ octets 3 c) ++ (o ∷ octets 2 p) ++ z

abbrev pub sample_frame : Edition → ℕ → ℕ → List ℕ → List ℕ
sample_frame e c p z = with_signal c (signal e c) p z

-- the zone of the first sample frame
abbrev pub first_zone : List ℕ
first_zone = 0x00 ∷ 0x05 ∷ 0xC0 ∷ 0x00 ∷ 0x00 ∷ 0x01 ∷ 0xAA ∷ 0xBB ∷ 0xE9 ∷ 0x05 ∷ []

-- and of the second
abbrev pub second_zone : List ℕ
second_zone = 0x11 ∷ 0x22 ∷ 0x33 ∷ 0xE1 ∷ 0x07 ∷ 0x55 ∷ 0x55 ∷ 0x55 ∷ 0x55 ∷ 0x55 ∷ []

-- the first frame as it is
abbrev pub first_frame : Edition → List ℕ
first_frame e = sample_frame e 0 0 first_zone

-- the second frame with another count or pointer
abbrev pub second_frame : Edition → ℕ → ℕ → List ℕ
second_frame e c p = sample_frame e c p second_zone

-- an idle zone
abbrev pub idle_frame : Edition → ℕ → List ℕ
idle_frame e c = sample_frame e c 2046 (replicate 10 0x55)

-- what is said of a frame, in numbers and events
pub record Line : Type 0 where
  pub refusal : ℕ
  pub count : ℕ
  pub lost : ℕ
  pub dropped : ℕ
  pub reason : ℕ
  pub damage : ℕ
  pub events : List Event

-- a refused frame has its number alone
abbrev pub line_of : Told → Line
line_of (refused n) = record { refusal = n; count = 0; lost = 0; dropped = 0; reason = 0; damage = 0; events = [] }
line_of (taken t) = record { refusal = 0; count = t.count; lost = t.lost; dropped = t.dropped; reason = t.reason; damage = t.damage; events = t.events }

-- the same of each frame
abbrev pub lines_of : List Told → List Line
lines_of [] = []
lines_of (t ∷ ts) = line_of t ∷ lines_of ts

-- a line for a frame that is entered, with no header damaged across zones
abbrev pub entered : ℕ → ℕ → ℕ → ℕ → List Event → Line
entered c l d r es = record { refusal = 0; count = c; lost = l; dropped = d; reason = r; damage = 0; events = es }

-- and for one that is refused
abbrev pub refused_by : ℕ → Line
refused_by n = line_of (refused n)

-- the packet of the first frame, and its line
abbrev pub eight : List ℕ
eight = 0x00 ∷ 0x05 ∷ 0xC0 ∷ 0x00 ∷ 0x00 ∷ 0x01 ∷ 0xAA ∷ 0xBB ∷ []

abbrev pub first_line : Line
first_line = entered 0 0 0 0 (packet eight ∷ [])

-- the packet that goes on into the second, the idle packet behind it
abbrev pub five : List ℕ
five = 0xE9 ∷ 0x05 ∷ 0x11 ∷ 0x22 ∷ 0x33 ∷ []

abbrev pub idle_seven : Event
idle_seven = idle (0xE1 ∷ 0x07 ∷ 0x55 ∷ 0x55 ∷ 0x55 ∷ 0x55 ∷ 0x55 ∷ [])

-- and the second's, after the first
abbrev pub second_line : Line
second_line = entered 1 0 0 0 (packet five ∷ idle_seven ∷ [])

-- a pass: the frames of a run, and the lines that are right for them
pub record Pass : Type 0 where
  pub frames : List (List ℕ)
  pub lines : List Line

-- both, put together
abbrev pub pass : List (List ℕ) → List Line → Pass
pass fs ls = record { frames = fs; lines = ls }

-- the lines that the rules give under these settings
abbrev pub given : Settings → List Pass → List (List Line)
given s [] = []
given s (p ∷ ps) = lines_of (told s fresh p.frames) ∷ given s ps

-- and those that are right
abbrev pub right : List Pass → List (List Line)
right [] = []
right (p ∷ ps) = p.lines ∷ right ps

-- 1 the run. 2 its second frame alone. 3 to 6 after the first frame: count 2; pointer 2; pointer 9 and 10, these also alone;
-- pointer 2,047. 7 idle zones with the greatest count, then 0, then 0 again; and the second frame's own pointer in the place of
-- an idle zone's.
abbrev pub passes : Edition → List Pass
passes e =
    pass (first_frame e ∷ second_frame e 1 3 ∷ []) (first_line ∷ second_line ∷ [])
    ∷ pass (second_frame e 1 3 ∷ []) (entered 1 0 0 0 (idle_seven ∷ []) ∷ [])
    ∷ pass (first_frame e ∷ second_frame e 2 3 ∷ []) (first_line ∷ entered 2 1 2 1 (idle_seven ∷ []) ∷ [])
    ∷ pass (first_frame e ∷ second_frame e 1 2 ∷ []) (first_line ∷ entered 1 0 2 2 (torn 1 ∷ []) ∷ [])
    ∷ pass (first_frame e ∷ second_frame e 1 9 ∷ []) (first_line ∷ entered 1 0 2 2 (torn 1 ∷ []) ∷ [])
    ∷ pass (first_frame e ∷ second_frame e 1 10 ∷ []) (first_line ∷ refused_by 7 ∷ [])
    ∷ pass (second_frame e 1 9 ∷ []) (entered 1 0 0 0 (torn 1 ∷ []) ∷ [])
    ∷ pass (second_frame e 1 10 ∷ []) (refused_by 7 ∷ [])
    ∷ pass (first_frame e ∷ second_frame e 1 2047 ∷ []) (first_line ∷ entered 1 0 2 2 [] ∷ [])
    ∷ pass (idle_frame e (greatest e) ∷ idle_frame e 0 ∷ idle_frame e 0 ∷ [])
    (entered (greatest e) 0 0 0 [] ∷ entered 0 0 0 0 [] ∷ entered 0 (greatest e) 0 1 [] ∷ [])
    ∷ pass (second_frame e (greatest e) 3 ∷ second_frame e 0 3 ∷ [])
    (entered (greatest e) 0 0 0 (idle_seven ∷ []) ∷ entered 0 0 0 2 (idle_seven ∷ []) ∷ [])
    ∷ []

-- the table, at each edition
abbrev pub SamplePasses : Type 0
SamplePasses = (e : Edition) → given (sample e) (passes e) ≡ right (passes e)

-- ---- the cycle

-- With usage 1: the count goes on from 24 bits into the cycle, and turns at 28; what would be the 24-bit wheel's turn leaves frames missing, as
-- does the same cycle's count again with another cycle. A cycle with packets: the run of pass 1 from the greatest count on.
abbrev pub cycle_passes : List Pass
cycle_passes =
    pass (idle_frame CycleUsed 16777215 ∷ idle_frame CycleUsed 16777216 ∷ idle_frame CycleUsed 16777217 ∷ [])
    (entered 16777215 0 0 0 [] ∷ entered 16777216 0 0 0 [] ∷ entered 16777217 0 0 0 [] ∷ [])
    ∷ pass (idle_frame CycleUsed 16777215 ∷ idle_frame CycleUsed 0 ∷ []) (entered 16777215 0 0 0 [] ∷ entered 0 251658240 0 1 [] ∷ [])
    ∷ pass (idle_frame CycleUsed 5 ∷ idle_frame CycleUsed 16777222 ∷ []) (entered 5 0 0 0 [] ∷ entered 16777222 16777216 0 1 [] ∷ [])
    ∷ pass (with_signal 16777215 0x4F 0 first_zone ∷ with_signal 0 0x40 3 second_zone ∷ [])
    (entered 268435455 0 0 0 (packet eight ∷ []) ∷ entered 0 0 0 0 (packet five ∷ idle_seven ∷ []) ∷ [])
    ∷ []

abbrev pub CyclePasses : Type 0
CyclePasses = given (sample CycleUsed) cycle_passes ≡ right cycle_passes

-- a wrong bit in the signalling octet: behind the first frame the second is refused by 6, and leaves no trace in what is said of it
abbrev pub spoilt : Edition → List ℕ → List Pass
spoilt e [] = []
spoilt e (o ∷ os) =
    pass (first_frame e ∷ with_signal 1 o 3 second_zone ∷ second_frame e 1 3 ∷ []) (first_line ∷ refused_by 6 ∷ second_line ∷ []) ∷ spoilt e os

-- any of the seven bits, whatever the replay flag
abbrev pub any_of_seven : List ℕ
any_of_seven = 0x40 ∷ 0x20 ∷ 0x10 ∷ 0x08 ∷ 0x04 ∷ 0x02 ∷ 0x01 ∷ 0xC0 ∷ 0xA0 ∷ 0x90 ∷ 0x88 ∷ 0x84 ∷ 0x82 ∷ 0x81 ∷ []

-- with usage 1: no usage flag, or one of the two spare bits
abbrev pub wrong_signals : Edition → List ℕ
wrong_signals Former = any_of_seven
wrong_signals CycleUnused = any_of_seven
wrong_signals CycleUsed = 0x00 ∷ 0x60 ∷ 0x50 ∷ 0x70 ∷ 0x01 ∷ 0x6F ∷ 0x5F ∷ 0x80 ∷ 0xE0 ∷ 0xD0 ∷ 0xF0 ∷ []

abbrev pub SpoiltPasses : Type 0
SpoiltPasses = (e : Edition) → given (sample e) (spoilt e (wrong_signals e)) ≡ right (spoilt e (wrong_signals e))

-- ---- the same channel with trailers

abbrev pub trailed_sample : Edition → Settings
trailed_sample e = record { link = record { spacecraft = 66; channel = 3; trailed = true; edition = e }; zone = 10; limit = 1024; fill = 0x55 }

-- the two sample frames with their trailers
abbrev pub trailed_first : List ℕ
trailed_first = first_frame Former ++ (0x2D ∷ 0x75 ∷ [])

abbrev pub trailed_second : List ℕ
trailed_second = second_frame Former 1 3 ++ (0x43 ∷ 0x63 ∷ [])

-- The run. Its first frame and then the second refused, once for each: no trailer; the trailer's octets swapped; another count, and another
-- version, under the trailer that stood there; that version with its own trailer. And what a refused frame leaves: the run goes on behind it.
abbrev pub trailed_passes : List Pass
trailed_passes =
    pass (trailed_first ∷ trailed_second ∷ []) (first_line ∷ second_line ∷ [])
    ∷ pass (trailed_first ∷ second_frame Former 1 3 ∷ []) (first_line ∷ refused_by 3 ∷ [])
    ∷ pass (trailed_first ∷ (second_frame Former 1 3 ++ (0x63 ∷ 0x43 ∷ [])) ∷ []) (first_line ∷ refused_by 13 ∷ [])
    ∷ pass (trailed_first ∷ (second_frame Former 2 3 ++ (0x43 ∷ 0x63 ∷ [])) ∷ []) (first_line ∷ refused_by 13 ∷ [])
    ∷ pass (trailed_first ∷ (0x90 ∷ 0x83 ∷ 0x00 ∷ 0x00 ∷ 0x01 ∷ 0x00 ∷ 0x00 ∷ 0x03 ∷ (second_zone ++ (0x43 ∷ 0x63 ∷ []))) ∷ []) (first_line ∷ refused_by 13 ∷ [])
    ∷ pass (trailed_first ∷ (0x90 ∷ 0x83 ∷ 0x00 ∷ 0x00 ∷ 0x01 ∷ 0x00 ∷ 0x00 ∷ 0x03 ∷ (second_zone ++ (0x5F ∷ 0xE3 ∷ []))) ∷ []) (first_line ∷ refused_by 4 ∷ [])
    ∷ pass (trailed_first ∷ (second_frame Former 1 3 ++ (0x43 ∷ 0x62 ∷ [])) ∷ trailed_second ∷ []) (first_line ∷ refused_by 13 ∷ second_line ∷ [])
    ∷ []

-- the two frames with usage 1 and their trailers
abbrev pub used_first : List ℕ
used_first = first_frame CycleUsed ++ (0x77 ∷ 0xA5 ∷ [])

abbrev pub used_second : List ℕ
used_second = second_frame CycleUsed 1 3 ++ (0x19 ∷ 0xB3 ∷ [])

-- The run with usage 1. Behind its first frame the second with the trailer of usage 0; with usage 0, and with a spare bit, under their own trailers; and with cycle 1.
abbrev pub trailed_cycle_passes : List Pass
trailed_cycle_passes =
    pass (used_first ∷ used_second ∷ []) (first_line ∷ second_line ∷ [])
    ∷ pass (used_first ∷ (second_frame CycleUsed 1 3 ++ (0x43 ∷ 0x63 ∷ [])) ∷ []) (first_line ∷ refused_by 13 ∷ [])
    ∷ pass (used_first ∷ trailed_second ∷ used_second ∷ []) (first_line ∷ refused_by 6 ∷ second_line ∷ [])
    ∷ pass (used_first ∷ (with_signal 1 0x60 3 second_zone ++ (0x34 ∷ 0xDB ∷ [])) ∷ used_second ∷ []) (first_line ∷ refused_by 6 ∷ second_line ∷ [])
    ∷ pass (used_first ∷ (with_signal 1 0x41 3 second_zone ++ (0x5C ∷ 0xD0 ∷ [])) ∷ []) (first_line ∷ entered 16777217 16777216 2 1 (idle_seven ∷ []) ∷ [])
    ∷ []

-- with usage 0 the runs are those of 701.0-B-2
pub record TrailedPasses : Type 0 where
  pub former : given (trailed_sample Former) trailed_passes ≡ right trailed_passes
  pub unused : given (trailed_sample CycleUnused) trailed_passes ≡ right trailed_passes
  pub used : given (trailed_sample CycleUsed) trailed_cycle_passes ≡ right trailed_cycle_passes

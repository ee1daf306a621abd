-- Runs that a weaker rule than `Carries` would carry, and that the judge faults: the trailer, rising counts, well-formed packets, pointers and the place
-- of idle zones are all needed.
use Rattle.std.specs.Prelude.{ℕ, ◌≡◌, true, false, List, [], ◌∷◌, ◌++◌, map, take}
use Rattle.octets.specs.Basics.{All}
use Rattle.packets.specs.Packet.{WellFormed, end_to_end}
use Rattle.frames.specs.Frame.{count, pointer, zone_of}
use Rattle.frames.specs.declared.Edition.TheVariants.{Former}
use Rattle.frames.specs.declared.Settings.{Settings}
use Rattle.judge.specs.Judge.{Verdict, pass, fault, verdict}
use Rattle.carries.specs.Carries.{starts, first_start, Between, LaidFrom, Bears, Rising}

-- Z = 2, M = 7
abbrev pub small : Settings
small = record { link = record { spacecraft = 66; channel = 3; trailed = false; edition = Former }; zone = 2; limit = 7; fill = 0x55 }

-- the same with trailers
abbrev pub small_trailed : Settings
small_trailed = record { link = record { spacecraft = 66; channel = 3; trailed = true; edition = Former }; zone = 2; limit = 7; fill = 0x55 }

-- a frame of the channel: its count, the two octets of its pointer, and the two of its zone
abbrev pub framed : ℕ → ℕ → ℕ → ℕ → ℕ → List ℕ
framed c high low a b = 0x50 ∷ 0x83 ∷ 0x00 ∷ 0x00 ∷ c ∷ 0x00 ∷ high ∷ low ∷ a ∷ b ∷ []

-- `Carries` with what it asks of the counts, of the packets and of the zones replaced; and the judge's verdict
pub record Judged (fs : List (List ℕ)) (rise formed laid : Type 0) (says : Verdict) : Type 0 where
  pub bear : All (Bears small) fs
  pub rises : rise
  pub are_formed : formed
  pub are_laid : laid
  pub verdict_is : verdict small fs ≡ says

-- a packet of two octets, which fills a zone, and one of four, which fills two
abbrev pub short_packet : List ℕ
short_packet = 0xE9 ∷ 0x02 ∷ []

abbrev pub long_packet : List ℕ
long_packet = 0xE9 ∷ 0x04 ∷ 0xAA ∷ 0xBB ∷ []

-- octets that begin no packet: the version is 001
abbrev pub no_packet : List ℕ
no_packet = 0x20 ∷ 0x00 ∷ []

-- each run under the rule whose one part is weaker, and beside it, where there is one, the run that the rule carries
pub record Weaker : Type 0 where
  -- a run that is carried without trailers: with them by its own alone
  pub untrailed :
      let f : List ℕ = framed 0 0x00 0x00 0xE9 0x02 in
      let ps : List (List ℕ) = short_packet ∷ [] in
      Judged (f ∷ []) (Rising small (f ∷ [])) (All (WellFormed 7) ps) (LaidFrom small ps 0 (f ∷ [])) pass
  pub trailed :
      let f : List ℕ = framed 0 0x00 0x00 0xE9 0x02 in
      map (λ (low : ℕ). verdict small_trailed ((f ++ (0x1F ∷ low ∷ [])) ∷ [])) (0x2B ∷ 0x2A ∷ []) ≡ pass ∷ fault 0 ∷ []
  -- counts that stand still, and counts that rise
  pub still :
      let f : List ℕ = framed 0 0x00 0x00 0xE9 0x02 in
      let g : List ℕ = framed 0 0x00 0x00 0xE9 0x02 in
      let ps : List (List ℕ) = short_packet ∷ short_packet ∷ [] in
      Judged (f ∷ g ∷ []) (count small g ≡ count small f) (All (WellFormed 7) ps) (LaidFrom small ps 0 (f ∷ g ∷ [])) (fault 1)
  pub rising :
      let fs : List (List ℕ) = framed 0 0x00 0x00 0xE9 0x02 ∷ framed 1 0x00 0x00 0xE9 0x02 ∷ [] in
      let ps : List (List ℕ) = short_packet ∷ short_packet ∷ [] in
      Judged fs (Rising small fs) (All (WellFormed 7) ps) (LaidFrom small ps 0 fs) pass
  -- packets that are not well formed
  pub unformed :
      let fs : List (List ℕ) = framed 0 0x00 0x00 0x20 0x00 ∷ [] in
      Judged fs (Rising small fs) (Unit {0}) (LaidFrom small (no_packet ∷ []) 0 fs) (fault 0)
  -- a pointer that is not the first start
  pub unpointed :
      let f : List ℕ = framed 0 0x00 0x01 0xE9 0x02 in
      let ps : List (List ℕ) = short_packet ∷ [] in
      Judged (f ∷ []) (Rising small (f ∷ [])) (All (WellFormed 7) ps)
      ((pointer small f ≡ 1) × (zone_of small f ≡ take 2 (end_to_end ps)) × LaidFrom small ps 2 [])
      (fault 0)
  -- an idle zone inside a packet, and after it
  pub idle_inside :
      let f : List ℕ = framed 0 0x00 0x00 0xE9 0x04 in
      let idle : List ℕ = framed 1 0x07 0xFE 0x55 0x55 in
      let g : List ℕ = framed 2 0x07 0xFF 0xAA 0xBB in
      let ps : List (List ℕ) = long_packet ∷ [] in
      Judged (f ∷ idle ∷ g ∷ []) (Rising small (f ∷ idle ∷ g ∷ [])) (All (WellFormed 7) ps)
      ((pointer small f ≡ first_start 2 0 (starts 0 ps)) × (zone_of small f ≡ take 2 (end_to_end ps)) × (pointer small idle ≡ 2046)
      × Between ps 0 × LaidFrom small ps 2 (g ∷ []))
      (fault 1)
  pub idle_after :
      let fs : List (List ℕ) = framed 0 0x00 0x00 0xE9 0x04 ∷ framed 1 0x07 0xFF 0xAA 0xBB ∷ framed 2 0x07 0xFE 0x55 0x55 ∷ [] in
      let ps : List (List ℕ) = long_packet ∷ [] in
      Judged fs (Rising small fs) (All (WellFormed 7) ps) (LaidFrom small ps 0 fs) pass

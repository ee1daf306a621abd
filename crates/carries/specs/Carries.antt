-- Demand 3's rule for "some list", written without the judge and without the multiplexer: packets laid end to end, cut by the
-- pointer rule.
use Rattle.std.specs.Prelude.{ℕ, ◌+◌, ◌-◌, ◌≡◌, List, [], ◌∷◌, ◌++◌, true, false, length, take, drop, leb, ltb, eqb}
use Rattle.octets.specs.Basics.{pick, and, All}
use Rattle.packets.specs.Packet.{WellFormed, end_to_end}
use Rattle.trailer.specs.Trailer.{wrong}
use Rattle.frames.specs.Link.{count_width, next_count}
use Rattle.frames.specs.Frame.{idle_zone, no_start, frame_length, version, spacecraft, channel, count, signalled, zone_spare, pointer, zone_of}
use Rattle.frames.specs.declared.Settings.{Settings}

-- where each packet starts, the first at o
unfoldable pub starts : ℕ → List (List ℕ) → List ℕ
starts o [] = []
starts o (p ∷ ps) = o ∷ starts (o + length p) ps

-- how far past o the first start stands that is in the zone of z octets from o
unfoldable pub first_start : ℕ → ℕ → List ℕ → ℕ
first_start z o [] = no_start
first_start z o (x ∷ xs) = pick (and (leb o x) (ltb x (o + z))) (x - o) (first_start z o xs)

abbrev pub Among : ℕ → List ℕ → Type 0
Among n [] = ⊥
Among n (m ∷ ms) = pick (eqb n m) (Unit {0}) (Among n ms)

-- no packet lies over o: one starts there, or all have ended
abbrev pub Between : List (List ℕ) → ℕ → Type 0
Between ps o = Among o (starts 0 ps ++ (length (end_to_end ps) ∷ []))

-- the zones of the frames, from the octet o of the packets on
unfoldable pub LaidFrom : Settings → List (List ℕ) → ℕ → List (List ℕ) → Type 0
LaidFrom s ps o [] = o ≡ length (end_to_end ps)
LaidFrom s ps o (f ∷ fs) =
    pick (eqb (pointer s f) idle_zone)
    (Between ps o × LaidFrom s ps o fs)
    ((pointer s f ≡ first_start s.zone o (starts 0 ps))
    × (zone_of s f ≡ take s.zone (drop o (end_to_end ps)))
    × LaidFrom s ps (o + s.zone) fs)

-- a frame bears the channel's header and, where the channel has one, the trailer of all octets before it
unfoldable pub Bears : Settings → List ℕ → Type 0
Bears s f =
    (length f ≡ frame_length s)
    × (wrong s.link.trailed f ≡ false)
    × (version s f ≡ 1)
    × (spacecraft s f ≡ s.link.spacecraft)
    × (channel s f ≡ s.link.channel)
    × (signalled s f ≡ true)
    × (zone_spare s f ≡ 0)

-- counts rise by one round the wheel
unfoldable pub Rising : Settings → List (List ℕ) → Type 0
Rising s [] = Unit {0}
Rising s (f ∷ []) = Unit {0}
Rising s (f ∷ (g ∷ fs)) = (count s g ≡ next_count (count_width s.link) (count s f)) × Rising s (g ∷ fs)

-- the frames are a run of the channel that carries exactly the packets ps
pub record Carries (s : Settings) (fs ps : List (List ℕ)) : Type 0 where
  pub bear : All (Bears s) fs
  pub rise : Rising s fs
  pub formed : All (WellFormed s.limit) ps
  pub laid : LaidFrom s ps 0 fs

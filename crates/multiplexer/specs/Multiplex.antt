-- The multiplexer's written rules.
use Rattle.std.specs.Prelude.{ℕ, ◌+◌, ◌-◌, ◌^◌, min, List, [], ◌∷◌, ◌++◌, Bool, true, false, not, length, replicate, leb, ltb, eqb}
use Rattle.octets.specs.Basics.{pick, and, or, part, over, Row, row}
use Rattle.packets.specs.Packet.{well_formed}
use Rattle.wrapping.specs.Idle.{idle_packet}
use Rattle.trailer.specs.Trailer.{ended}
use Rattle.frames.specs.Link.{zone_at, count_width, next_count}
use Rattle.frames.specs.Frame.{in_range, frame_length, head, no_start, idle_zone}
use Rattle.frames.specs.declared.Settings.{Settings}
use Rattle.multiplexer.specs.declared.Mux.{Mux}

-- the first record: the first count is 0, the zone is empty, and no packet has begun
abbrev pub begun : Mux
begun = record { count = 0; filled = 0; first = no_start; taken = 0 }

-- the records that the rules can reach: during a packet the zone is empty; else the zone is not full, and the first start is inside it
unfoldable pub mux_reachable : Settings → Mux → Bool
mux_reachable s m =
    and (ltb m.count (2 ^ count_width s.link))
    (pick (eqb m.taken 0)
    (and (ltb m.filled s.zone) (or (eqb m.first no_start) (ltb m.first m.filled)))
    (and (eqb m.filled 0) (and (eqb m.first no_start) (ltb m.taken s.limit))))

-- what every call is refused for first, in order: the settings, the lent frame's room, the record
abbrev pub lent_rows : Settings → Mux → ℕ → List Row
lent_rows s m room =
    row 1 (not (in_range s)) ∷ row 2 (ltb room (frame_length s)) ∷ row 10 (not (mux_reachable s m)) ∷ []

-- a continued packet is longer than the octets already taken, and every packet is well formed
unfoldable pub put_rows : Settings → Mux → List ℕ → ℕ → List Row
put_rows s m p room =
    lent_rows s m room
    ++ (row 9 (and (ltb 0 m.taken) (leb (length p) m.taken))
    ∷ row 8 (not (well_formed s.limit p))
    ∷ [])

-- the frame with `os` put into the zone; and the header, and what follows the zone, too where it is now full
unfoldable pub filled_frame : Settings → Mux → ℕ → List ℕ → List ℕ → List ℕ
filled_frame s m start os frame =
    let frame₁ : List ℕ = over frame (zone_at s.link + m.filled) os in
    pick (eqb (m.filled + length os) s.zone)
    (ended s.link.trailed (over frame₁ 0 (head s m.count start)) (zone_at s.link + s.zone))
    frame₁

-- the record with n octets more in the zone; a full zone is the next frame's, empty
unfoldable pub filled_mux : Settings → Mux → ℕ → ℕ → ℕ → Mux
filled_mux s m start n taken =
    pick (eqb (m.filled + n) s.zone)
    (record { count = next_count (count_width s.link) m.count; filled = 0; first = no_start; taken = taken })
    (record { count = m.count; filled = m.filled + n; first = start; taken = taken })

-- where the first packet of the zone starts, once the next octets are put there: a packet that is continued starts nothing
unfoldable pub start_now : Mux → ℕ
start_now m = pick (and (eqb m.taken 0) (eqb m.first no_start)) m.filled m.first

-- how many of the octets not yet taken fit
unfoldable pub fits_now : Settings → Mux → List ℕ → ℕ
fits_now s m p = min (s.zone - m.filled) (length p - m.taken)

-- what a call leaves: whether the zone is full, whether the packet is taken, the record and the frame
pub record Put : Type 0 where
  pub full : Bool
  pub taken : Bool
  pub mux : Mux
  pub frame : List ℕ

unfoldable pub put : Settings → Mux → List ℕ → List ℕ → Put
put s m p frame =
    let n : ℕ = fits_now s m p in
    let over_packet : Bool = eqb (m.taken + n) (length p) in
    record {
      full = eqb (m.filled + n) s.zone;
      taken = over_packet;
      mux = filled_mux s m (start_now m) n (pick over_packet 0 (m.taken + n));
      frame = filled_frame s m (start_now m) (part m.taken (m.taken + n) p) frame;
    }

-- a flush is refused during a packet
unfoldable pub flush_rows : Settings → Mux → ℕ → List Row
flush_rows s m room = lent_rows s m room ++ (row 9 (ltb 0 m.taken) ∷ [])

-- a flush of an empty zone writes nothing; else it puts one idle packet, to the zone's end
unfoldable pub flush : Settings → Mux → List ℕ → Put
flush s m frame =
    let p : List ℕ = idle_packet s.fill (s.zone - m.filled) in
    pick (eqb m.filled 0)
    (record { full = false; taken = false; mux = m; frame = frame })
    (put s m p frame)

-- an idle zone is refused during a packet and in a begun zone
unfoldable pub idle_rows : Settings → Mux → ℕ → List Row
idle_rows s m room = lent_rows s m room ++ (row 9 (or (ltb 0 m.taken) (ltb 0 m.filled)) ∷ [])

-- the fill octet throughout
unfoldable pub idle_frame : Settings → Mux → List ℕ → Put
idle_frame s m frame =
    record {
      full = true;
      taken = false;
      mux = filled_mux s m idle_zone s.zone 0;
      frame = filled_frame s m idle_zone (replicate s.zone s.fill) frame;
    }

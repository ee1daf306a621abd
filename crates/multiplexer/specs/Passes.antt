-- Sample pass 9, at each edition: what a flush writes with r octets left in a zone.
use Rattle.std.specs.Prelude.{ℕ, ◌-◌, false, ◌≡◌, List, [], ◌∷◌, drop, replicate}
use Rattle.frames.specs.Frame.{frame_length, zone_of}
use Rattle.frames.specs.declared.Edition.{Edition}
use Rattle.frames.specs.declared.Settings.{Settings}
use Rattle.multiplexer.specs.Multiplex.{flush}
use Rattle.multiplexer.specs.declared.Mux.{Mux}

-- a channel with zones of 300 octets and the fill octet 55
unfoldable pub sample : Edition → Settings
sample e = record { link = record { spacecraft = 66; channel = 3; trailed = false; edition = e }; zone = 300; limit = 1024; fill = 0x55 }

-- the end of the zone that a flush leaves, from the r octets that were left
unfoldable pub flushed : Edition → ℕ → List ℕ
flushed e r =
    let filled : ℕ = (sample e).zone - r in
    let m : Mux = record { count = 0; filled = filled; first = 0; taken = 0 } in
    drop filled (zone_of (sample e) (flush (sample e) m (replicate (frame_length (sample e)) 0)).frame)

pub record Pass9 (e : Edition) : Type 0 where
  pub one : flushed e 1 ≡ 0xE0 ∷ []
  pub two : flushed e 2 ≡ 0xE1 ∷ 2 ∷ []
  pub octet : flushed e 255 ≡ 0xE1 ∷ 255 ∷ replicate 253 0x55
  pub more : flushed e 256 ≡ 0xE2 ∷ 0 ∷ 1 ∷ 0 ∷ replicate 252 0x55

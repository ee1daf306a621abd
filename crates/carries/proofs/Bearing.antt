-- A frame that bears the channel's header is one that no row refuses, and counts that rise by one leave none missing.
-- Assumes nothing.
use mathlib.Core.Path.{◌≡◌, refl}
use mathlib.Core.Logic.Iff
use mathlib.Core.Logic.{◌↔◌}
use mathlib.Core.List.{List, [], ◌∷◌}
use mathlib.Core.Option.{Option, none, some}
use Prim.Native.Nat.{ℕ, ◌^◌, ◌≤◌, ◌<◌}
use native.Mathlib.Omega.{arith}
use lib.ListN.{length}
use borrow.Author.Tests.{eq-eqb}
use Rattle.octets.specs.Basics.{first}
use Rattle.frames.specs.Link.{primary, header_rows, count_width, next_count}
use Rattle.frames.specs.Frame.{packet_shape, frame_length, version, spacecraft, channel, count, zone_spare, pointer, unused, frame_rows}
use Rattle.frames.specs.declared.Settings.{Settings}
use Rattle.frames.proofs.Framed.{Used}
use Rattle.frames.proofs.Rows.{sound_frame}
use Rattle.frames.proofs.Settled.{Settled}
use Rattle.frames.proofs.Wheel.{count_lt, none_missing}
use Rattle.extractor.specs.Extract.{lost_since}
use Rattle.carries.specs.Carries.{Bears, Rising}

-- ---- the header

pub rows_bear : (s : Settings) (f : List ℕ) → first (frame_rows s f) ≡ 0 → Bears s f
unfolding Bears frame_rows frame_length
rows_bear s f e =
    let r = sound_frame (packet_shape s) f e in
    let h = r.header in
    (r.length-right, r.trailer_right, h.version_right, h.spacecraft_right, h.channel_right, h.signal_right, h.zone_spare_clear)

-- and back, where the pointer is one that is used
pub bears_rows : (s : Settings) (f : List ℕ) → Bears s f → Used s (pointer s f) → first (frame_rows s f) ≡ 0
unfolding frame_rows frame_length unused header_rows first Bears
bears_rows s f (e₁, right, e₂, e₃, e₄, e₅, e₆) used =
    rw (
      eq-eqb (length f) (frame_length s) e₁,
      right,
      eq-eqb (version s f) 1 e₂,
      eq-eqb (spacecraft s f) s.link.spacecraft e₃,
      eq-eqb (channel s f) s.link.channel e₄,
      e₅,
      eq-eqb (zone_spare s f) 0 e₆,
      used,
    )

pub bears_length : (s : Settings) (f : List ℕ) → Bears s f → length f ≡ frame_length s
unfolding Bears
bears_length s f b = b.0

-- ---- counts

-- a count that may be known, and if so is one of the wheel's
abbrev pub Counted : Settings → Option ℕ → Type 0
Counted s none = Unit {0}
Counted s (some c) = c < 2 ^ count_width s.link

pub count_fits : (s : Settings) (f : List ℕ) → Counted s (some (count s f))
count_fits s f = count_lt s.link (primary s.link f)

-- the frame's count is the next one
abbrev pub Next : Settings → Option ℕ → List ℕ → Type 0
Next s none f = Unit {0}
Next s (some c) f = count s f ≡ next_count (count_width s.link) c

-- the counts of the frames go on from `last`: `Rising`, with what stood before the first frame
abbrev pub Follows : Settings → Option ℕ → List (List ℕ) → Type 0
Follows s last [] = Unit {0}
Follows s last (f ∷ fs) = Next s last f × Follows s (some (count s f)) fs

rising_after : (s : Settings) (f : List ℕ) (fs : List (List ℕ)) → Rising s (f ∷ fs) ↔ Follows s (some (count s f)) fs
unfolding Rising
rising_after s f [] = Iff.rfl
rising_after s f (g ∷ fs) = Iff.and Iff.rfl (rising_after s g fs)

pub rising_follows : (s : Settings) (fs : List (List ℕ)) → Rising s fs ↔ Follows s none fs
unfolding Rising
rising_follows s [] = Iff.rfl
rising_follows s (f ∷ fs) = (λ r. (tt, (rising_after s f fs).0 r), λ r. (rising_after s f fs).1 r.1)

-- nothing is missing where the count is the next one, and nowhere else
pub lost_next : (s : Settings) (last : Option ℕ) (f : List ℕ) → Counted s last → (lost_since s last (count s f) ≡ 0) ↔ Next s last f
unfolding lost_since
lost_next s none f h = (λ e. tt, λ e. refl)
lost_next s (some c) f h = none_missing (count_width s.link) c (count s f) (count_fits s f)

-- ---- settings

-- a limit that is in range is some octet's
pub some_limit : {s : Settings} → Settled s → 1 ≤ s.limit
some_limit g = omega (arith, g.limit_least)

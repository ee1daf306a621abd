-- What is shown of the editions of the header: both headers octet by octet, that every frame with them is taken, what any other is
-- refused for, how wide the wheel is, and that 732.0-B-3 with usage 0 has the very octets of 701.0-B-2.
use Rattle.std.specs.Prelude.{◌≡◌, ℕ, ◌+◌, ◌*◌, ◌/◌, ◌%◌, ◌^◌, ◌<◌, Bool, true, false, not, List, [], ◌∷◌, ◌++◌, length, ◌==◌}
use Rattle.octets.specs.Basics.{and, AllOctets, row, first}
use Rattle.trailer.specs.Trailer.{sent, wrong}
use Rattle.frames.specs.Edition.{own_width, usage}
use Rattle.frames.specs.Link.{link_in_range, count_width, headers, next_count, missing}
use Rattle.frames.specs.Frame.{in_range, frame_length, unused, heading, pointer_word, head, head_rows}
use Rattle.frames.specs.BitFrame.{bits_in_range, bit_frame_length, bit_unused, bit_heading, bit_pointer_word, bit_head, bit_head_rows}
use Rattle.frames.specs.declared.Edition.{Edition}
use Rattle.frames.specs.declared.Edition.TheVariants.{Former, CycleUnused, CycleUsed}
use Rattle.frames.specs.declared.Link.{Link}
use Rattle.frames.specs.declared.Settings.{Settings}
use Rattle.frames.specs.declared.bits.BitSettings.{BitSettings}

-- the same settings at another edition
abbrev pub link_by : Edition → Link → Link
link_by e l = record { spacecraft = l.spacecraft; channel = l.channel; trailed = l.trailed; edition = e }

abbrev pub settings_by : Edition → Settings → Settings
settings_by e s = record { link = link_by e s.link; zone = s.zone; limit = s.limit; fill = s.fill }

abbrev pub bit_settings_by : Edition → BitSettings → BitSettings
bit_settings_by e s = record { link = link_by e s.link; width = s.width; fill = s.fill }

-- Both headers with this count, replay flag and number of the zone's header. The signalling octet has the replay flag, the usage flag, two spare bits,
-- and what the count has above the three octets before it.
pub record AsOctets : Type 0 where
  pub written : (l : Link) (c r z : ℕ) → link_in_range l ≡ true → c < 2 ^ count_width l → r < 2 → z < 65536
      → headers l c r z
      ≡ (64 + l.spacecraft / 4) ∷ (l.spacecraft % 4 * 64 + l.channel)
      ∷ (c / 65536 % 256) ∷ (c / 256 % 256) ∷ (c % 256) ∷ (r * 128 + usage l.edition * 64 + c / 2 ^ own_width)
      ∷ (z / 256) ∷ (z % 256) ∷ []

-- A frame with these headers and a zone, sent with its trailer where the channel has one, is taken, and read as what it was made of; also with the replay
-- flag. `HeadersRead.again` is the other way round: a frame that is not refused is one of these.
pub record Taken : Type 0 where
  pub packets : (s : Settings) (c r p : ℕ) (zone : List ℕ) → in_range s ≡ true → c < 2 ^ count_width s.link → r < 2 → p < 2 ^ 11 → unused s p ≡ false
      → length zone ≡ s.zone
      → heading s (sent s.link.trailed (headers s.link c r (pointer_word p) ++ zone)) ≡ record { refusal = 0; count = c; replay = r; pointer = p }
  pub bits : (s : BitSettings) (c r p : ℕ) (zone : List ℕ) → bits_in_range s ≡ true → c < 2 ^ count_width s.link → r < 2 → p < 2 ^ 14
      → bit_unused s p ≡ false → length zone ≡ s.width
      → bit_heading s (sent s.link.trailed (headers s.link c r (bit_pointer_word p) ++ zone)) ≡ record { refusal = 0; count = c; replay = r; pointer = p }

-- No count that is not on the wheel is written.
pub record OnWheel : Type 0 where
  pub packets : (s : Settings) (c p : ℕ) (buffer : List ℕ) → first (head_rows s c p buffer) ≡ 0 → c < 2 ^ count_width s.link
  pub bits : (s : BitSettings) (c p : ℕ) (buffer : List ℕ) → first (bit_head_rows s c p buffer) ≡ 0 → c < 2 ^ count_width s.link

-- The signalling octets that are not refused, whatever the replay flag: all seven bits 0, or 100 above the cycle.
unfoldable pub right_octet : Edition → ℕ → Bool
right_octet Former o = o % 128 == 0
right_octet CycleUnused o = o % 128 == 0
right_octet CycleUsed o = o / 16 % 8 == 4

-- What a frame is refused for by its first two octets, the signalling octet, the spare bits of the zone's header and its pointer, in order.
unfoldable pub by_octets : Link → ℕ → ℕ → ℕ → ℕ → Bool → ℕ
by_octets l a b o spare unused =
    first (row 4 (not (a / 64 == 1))
    ∷ row 5 (not (and (a % 64 * 4 + b / 64 == l.spacecraft) (b % 64 == l.channel)))
    ∷ row 6 (not (and (right_octet l.edition o) (spare == 0)))
    ∷ row 7 unused
    ∷ [])

-- So it is for every frame of the right length and with the right trailer, by its eight octets a b, the count's three, the signalling octet o, x and y.
pub record RefusedBy : Type 0 where
  pub packets : (s : Settings) (a b c₁ c₂ c₃ o x y : ℕ) (zone : List ℕ) → in_range s ≡ true → AllOctets (a ∷ b ∷ c₁ ∷ c₂ ∷ c₃ ∷ o ∷ x ∷ y ∷ [])
      → length (a ∷ b ∷ c₁ ∷ c₂ ∷ c₃ ∷ o ∷ x ∷ y ∷ zone) ≡ frame_length s → wrong s.link.trailed (a ∷ b ∷ c₁ ∷ c₂ ∷ c₃ ∷ o ∷ x ∷ y ∷ zone) ≡ false
      → (heading s (a ∷ b ∷ c₁ ∷ c₂ ∷ c₃ ∷ o ∷ x ∷ y ∷ zone)).refusal ≡ by_octets s.link a b o (x / 8) (unused s (x % 8 * 256 + y))
  pub bits : (s : BitSettings) (a b c₁ c₂ c₃ o x y : ℕ) (zone : List ℕ) → bits_in_range s ≡ true → AllOctets (a ∷ b ∷ c₁ ∷ c₂ ∷ c₃ ∷ o ∷ x ∷ y ∷ [])
      → length (a ∷ b ∷ c₁ ∷ c₂ ∷ c₃ ∷ o ∷ x ∷ y ∷ zone) ≡ bit_frame_length s → wrong s.link.trailed (a ∷ b ∷ c₁ ∷ c₂ ∷ c₃ ∷ o ∷ x ∷ y ∷ zone) ≡ false
      → (bit_heading s (a ∷ b ∷ c₁ ∷ c₂ ∷ c₃ ∷ o ∷ x ∷ y ∷ zone)).refusal ≡ by_octets s.link a b o (x / 64) (bit_unused s (x % 64 * 256 + y))

-- The wheel has 2^24 counts, and 2^28 with usage 1. On a wheel of any width, as many frames are missing before c as the count has to go on from the one after
-- `last`, and fewer than there are counts.
pub record Wheels : Type 0 where
  pub former : (l : Link) → count_width (link_by Former l) ≡ 24
  pub unused : (l : Link) → count_width (link_by CycleUnused l) ≡ 24
  pub used : (l : Link) → count_width (link_by CycleUsed l) ≡ 28
  pub next : (width c : ℕ) → next_count width c ≡ (c + 1) % 2 ^ width
  pub missing_before : (width last c : ℕ) → (missing width last c + (last + 1)) % 2 ^ width ≡ c % 2 ^ width
  pub fewer : (width last c : ℕ) → missing width last c < 2 ^ width

-- Every header is read, refused and written alike, and the wheel is the same.
pub record SameOctets : Type 0 where
  pub wheel : (l : Link) → count_width (link_by CycleUnused l) ≡ count_width (link_by Former l)
  pub read : (s : Settings) (f : List ℕ) → heading (settings_by CycleUnused s) f ≡ heading (settings_by Former s) f
  pub written : (s : Settings) (c p : ℕ) → head (settings_by CycleUnused s) c p ≡ head (settings_by Former s) c p
  pub unwritten : (s : Settings) (c p : ℕ) (buffer : List ℕ) → head_rows (settings_by CycleUnused s) c p buffer ≡ head_rows (settings_by Former s) c p buffer
  pub bits_read : (s : BitSettings) (f : List ℕ) → bit_heading (bit_settings_by CycleUnused s) f ≡ bit_heading (bit_settings_by Former s) f
  pub bits_written : (s : BitSettings) (c p : ℕ) → bit_head (bit_settings_by CycleUnused s) c p ≡ bit_head (bit_settings_by Former s) c p
  pub bits_unwritten : (s : BitSettings) (c p : ℕ) (buffer : List ℕ)
      → bit_head_rows (bit_settings_by CycleUnused s) c p buffer ≡ bit_head_rows (bit_settings_by Former s) c p buffer

pub record Editions : Type 0 where
  pub as_octets : AsOctets
  pub taken : Taken
  pub refused_by : RefusedBy
  pub on_wheel : OnWheel
  pub wheels : Wheels
  pub same_octets : SameOctets

-- What is shown of the headers of frames, of packet channels and of bitstream channels.
use Rattle.std.specs.Prelude.{◌≡◌, ℕ, ◌^◌, ◌<◌, true, List, ◌++◌, take}
use Rattle.octets.specs.Basics.{AllOctets, first}
use Rattle.words.specs.Fields.{read}
use Rattle.words.specs.declared.Place.{Place}
use Rattle.trailer.specs.Trailer.{sent}
use Rattle.frames.specs.Edition.{replay_place, count_in, signals}
use Rattle.frames.specs.Link.{zone_at, primary, zone_head, version_place, spacecraft_place, channel_place, count_width, headers}
use Rattle.frames.specs.Frame.{in_range, frame_rows, zone_of, count, replay, zone_spare_place, pointer_place, pointer, pointer_word, head}
use Rattle.frames.specs.BitFrame.{bits_in_range, bit_frame_rows, bit_zone_of, bit_count, bit_replay, bit_spare_place, bit_pointer_place, bit_pointer, bit_pointer_word, bit_head}
use Rattle.frames.specs.declared.Link.{Link}
use Rattle.frames.specs.declared.Settings.{Settings}
use Rattle.frames.specs.declared.bits.BitSettings.{BitSettings}

-- headers that were written with this count, replay flag and pointer, read back field by field: all spare bits are 0, and the usage is the channel's
pub record HeadersBack (l : Link) (zone_spare_at pointer_at : Place) (c r p : ℕ) (f : List ℕ) : Type 0 where
  pub version_back : read version_place (primary l f) ≡ 1
  pub spacecraft_back : read spacecraft_place (primary l f) ≡ l.spacecraft
  pub channel_back : read channel_place (primary l f) ≡ l.channel
  pub count_back : count_in l.edition (primary l f) ≡ c
  pub replay_back : read replay_place (primary l f) ≡ r
  pub signal_back : signals l.edition (primary l f) ≡ true
  pub zone_spare_back : read zone_spare_at (zone_head l f) ≡ 0
  pub pointer_back : read pointer_at (zone_head l f) ≡ p

-- a frame that begins with written headers is read back; and a frame that is not refused is its headers, written again from what
-- is read, and its zone, sent with their trailer where the channel has one: for both channels
pub record HeadersRead : Type 0 where
  pub back : (s : Settings) (c p : ℕ) (f : List ℕ) → in_range s ≡ true → c < 2 ^ count_width s.link → p < 2 ^ 11
      → take (zone_at s.link) f ≡ head s c p → HeadersBack s.link zone_spare_place pointer_place c 0 p f
  pub again : (s : Settings) (f : List ℕ) → in_range s ≡ true → AllOctets f → first (frame_rows s f) ≡ 0
      → f ≡ sent s.link.trailed (headers s.link (count s f) (replay s f) (pointer_word (pointer s f)) ++ zone_of s f)
  pub bits_back : (s : BitSettings) (c p : ℕ) (f : List ℕ) → bits_in_range s ≡ true → c < 2 ^ count_width s.link → p < 2 ^ 14
      → take (zone_at s.link) f ≡ bit_head s c p → HeadersBack s.link bit_spare_place bit_pointer_place c 0 p f
  pub bits_again : (s : BitSettings) (f : List ℕ) → bits_in_range s ≡ true → AllOctets f → first (bit_frame_rows s f) ≡ 0
      → f ≡ sent s.link.trailed (headers s.link (bit_count s f) (bit_replay s f) (bit_pointer_word (bit_pointer s f)) ++ bit_zone_of s f)

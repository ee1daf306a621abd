-- A frame that is put together from a count, a pointer and a zone, read back.
-- Assumes nothing.
use Rattle.std.proofs.Common.{◌≡◌, ℕ, ◌^◌, ◌<◌, true, false, leb, List, ◌++◌, length, take, ◌∙◌, arith, length-append, take_all, take_at, drop_at}
use borrow.Author.Tests.{lt-leb}
use Rattle.octets.specs.Basics.{first}
use Rattle.octets.proofs.Choices.{and_false}
use Rattle.trailer.specs.Trailer.{sent, wrong}
use Rattle.trailer.proofs.Setting.{length-sent, sent_front, sent_part, sent_right}
use Rattle.frames.specs.Link.{count_width}
use Rattle.frames.specs.Frame.{in_range, packet_shape, frame_length, frame_rows, zone_of, count, zone_spare_place, pointer_place, pointer, unused, head}
use Rattle.frames.specs.Statements.{HeadersBack}
use Rattle.frames.specs.declared.Settings.{Settings}
use Rattle.frames.proofs.ReadBack.{length-head, head_back, shape_taken}

-- a frame of the channel with this count, this pointer and this zone
unfoldable pub framed : Settings → ℕ → ℕ → List ℕ → List ℕ
framed s c p z = sent s.link.trailed (head s c p ++ z)

-- a pointer that no row refuses
abbrev pub Used : Settings → ℕ → Type 0
Used s p = unused s p ≡ false

pub pointer_inside : (s : Settings) (p : ℕ) → p < s.zone → Used s p
unfolding unused
pointer_inside s p low = rw (lt-leb s.zone p low)

pub pointer_beyond : (s : Settings) (p : ℕ) → 2045 < p → Used s p
unfolding unused
pointer_beyond s p high = rw (lt-leb p 2045 high) (and_false (leb s.zone p))

-- what such a frame is read as
pub record Framed (s : Settings) (c p : ℕ) (z f : List ℕ) : Type 0 where
  pub its_length : length f ≡ frame_length s
  pub its_count : count s f ≡ c
  pub its_pointer : pointer s f ≡ p
  pub its_zone : zone_of s f ≡ z
  pub taken : first (frame_rows s f) ≡ 0

module _ (s : Settings) (c p : ℕ) (z : List ℕ) (ok : in_range s ≡ true) (wheel : c < 2 ^ count_width s.link) (short : p < 2 ^ 11)
    (fits : length z ≡ s.zone) (used : Used s p) where
  headed : take 8 (framed s c p z) ≡ head s c p
  unfolding framed
  headed =
      sent_front s.link.trailed (head s c p ++ z) 8 (omega (arith, length-append (head s c p) z, length-head s c p))
      ∙ take_at (head s c p) z 8 (length-head s c p)

  back : HeadersBack s.link zone_spare_place pointer_place c 0 p (framed s c p z)
  back = head_back s c p (framed s c p z) ok wheel short headed

  long : length (framed s c p z) ≡ frame_length s
  unfolding framed frame_length
  long = omega (arith, length-sent s.link.trailed (head s c p ++ z), length-append (head s c p) z, length-head s c p)

  zoned : zone_of s (framed s c p z) ≡ z
  unfolding framed zone_of
  zoned =
      sent_part s.link.trailed (head s c p ++ z) 8 s.zone (omega (arith, length-append (head s c p) z, length-head s c p))
      ∙ rw (drop_at (head s c p) z 8 (length-head s c p)) (take_all s.zone z (omega arith))

  ended : wrong s.link.trailed (framed s c p z) ≡ false
  unfolding framed
  ended = sent_right s.link.trailed (head s c p ++ z)

  unrefused : first (frame_rows s (framed s c p z)) ≡ 0
  unfolding frame_rows frame_length unused
  unrefused = shape_taken (packet_shape s) back long ended used

  pub framed_is : Framed s c p z (framed s c p z)
  framed_is = record {
    its_length = long;
    its_count = back.count_back;
    its_pointer = back.pointer_back;
    its_zone = zoned;
    taken = unrefused;
  }

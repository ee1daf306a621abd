-- A frame that is put together from a count, a replay flag, a pointer and a zone is taken, and read as these; over the shape, for both channels.
-- Assumes nothing.
use Rattle.std.proofs.Common.{◌≡◌, ℕ, ◌^◌, ◌<◌, ◌≤◌, false, List, ◌++◌, length, refl, ◌∙◌, arith, length-append, take_at}
use Rattle.octets.specs.Basics.{first}
use Rattle.trailer.specs.Trailer.{sent}
use Rattle.trailer.proofs.Setting.{length-sent, sent_front, sent_right}
use Rattle.frames.specs.Link.{count_width, headers}
use Rattle.frames.specs.Shape.{Shape, shape_length, spare_above, pointer_at, shape_unused, shape_rows, heading_of, shape_heading, word_of}
use Rattle.frames.specs.Frame.{packet_shape, frame_rows, heading_rows, heading, unused}
use Rattle.frames.specs.BitFrame.{bits_shape, bit_frame_rows, bit_heading_rows, bit_heading, bit_unused}
use Rattle.frames.specs.Statements.{HeadersBack}
use Rattle.frames.specs.Editions.{Taken}
use Rattle.frames.proofs.Settled.{Linked, settled}
use Rattle.frames.proofs.ReadBack.{length-headers, headers_back, shape_taken}
use Rattle.frames.proofs.bits.Settled.{bits_settled}

module _ (h : Shape) (c r p : ℕ) (zone : List ℕ) (bounds : Linked h.link) (narrow : h.width ≤ 16) (fits : c < 2 ^ count_width h.link) (flag : r < 2)
    (short : p < 2 ^ h.width) (used : shape_unused h p ≡ false) (long : length zone ≡ h.size) where
  abbrev both : List ℕ
  both = headers h.link c r (word_of h.width p)

  abbrev frame : List ℕ
  frame = sent h.link.trailed (both ++ zone)

  eight : length both ≡ 8
  eight = length-headers h.link c r (word_of h.width p)

  back : HeadersBack h.link (spare_above h.width) (pointer_at h.width) c r p frame
  back =
      headers_back h.link h.width c r p frame bounds narrow fits flag short
      (sent_front h.link.trailed (both ++ zone) 8 (omega (arith, length-append both zone, eight)) ∙ take_at both zone 8 eight)

  unrefused : first (shape_rows h frame) ≡ 0
  unrefused =
      let whole : length frame ≡ shape_length h = omega (arith, length-sent h.link.trailed (both ++ zone), length-append both zone, eight) in
      shape_taken h back whole (sent_right h.link.trailed (both ++ zone)) used

  pub shape_heads : shape_heading h (shape_rows h frame) frame ≡ record { refusal = 0; count = c; replay = r; pointer = p }
  unfolding heading_of
  shape_heads = rw (unrefused, back.count_back, back.replay_back, back.pointer_back) refl

pub taken : Taken
unfolding heading heading_rows frame_rows unused bit_heading bit_heading_rows bit_frame_rows bit_unused first
taken = record {
  packets = λ s c r p zone ok fits flag short used long.
      rw ok (shape_heads (packet_shape s) c r p zone (settled s ok).on_link (omega arith) fits flag short used long);
  bits = λ s c r p zone ok fits flag short used long.
      rw ok (shape_heads (bits_shape s) c r p zone (bits_settled s ok).on_link (omega arith) fits flag short used long);
}

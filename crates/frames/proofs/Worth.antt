-- What the trailer is worth, over the shape and then for both channels.
-- Assumes nothing.
use Rattle.std.proofs.Common.{◌≡◌, ℕ, ◌≤◌, true, false, List, length, sym, refl, ◌∙◌, arith, eq-eqb}
use Rattle.octets.specs.Basics.{first}
use Rattle.trailer.specs.Trailer.{right, wrong}
use Rattle.trailer.specs.WrongBits.{Received}
use Rattle.trailer.proofs.Setting.{extra_small}
use Rattle.trailer.proofs.Bursts.{bursts_seen}
use Rattle.trailer.proofs.Odd.{odd_seen}
use Rattle.trailer.proofs.Few.{few_seen}
use Rattle.frames.specs.Shape.{Shape, shape_length, shape_rows}
use Rattle.frames.specs.Frame.{packet_shape, frame_length, frame_rows}
use Rattle.frames.specs.BitFrame.{bits_shape, bit_frame_length, bit_frame_rows}
use Rattle.frames.specs.Worth.{Seen, Worth}
use Rattle.frames.proofs.Settled.{settled}
use Rattle.frames.proofs.bits.Settled.{bits_settled}

module _ (h : Shape) (small : h.size ≤ 2047) (on : h.link.trailed ≡ true) (sent came : List ℕ) (received : Received sent came)
    (long : length sent ≡ shape_length h) where
  refused : right came ≡ false → first (shape_rows h came) ≡ 13
  unfolding first wrong
  refused e = rw (eq-eqb _ (shape_length h) (sym received.as_many ∙ long), on, e) refl

  shape_seen : Seen (shape_rows h) sent came
  shape_seen = record {
    burst = λ other within. refused (bursts_seen sent came received other within);
    odd = λ number. refused (odd_seen sent came received number);
    few = λ other number. refused (few_seen sent came received other (omega (arith, extra_small h.link.trailed)) number);
  }

pub worth : Worth
unfolding frame_length bit_frame_length frame_rows bit_frame_rows
worth = record {
  packets = λ s on ok. shape_seen (packet_shape s) (omega (arith, (settled s ok).zone_most)) on;
  bits = λ s on ok. shape_seen (bits_shape s) (bits_settled s ok).width_most on;
}

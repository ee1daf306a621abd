-- Writing: what a call that is not refused was given, and the frame that it leaves.
-- Assumes nothing.
use mathlib.Core.Path.{◌≡◌, refl, sym, ap, ap₂, ◌∙◌}
use mathlib.Core.List.{List, ◌++◌}
use mathlib.Core.Bool.{Bool, true}
use Prim.Native.Nat.{ℕ, ◌+◌, ◌^◌, ◌≤◌, ◌<◌}
use native.Mathlib.Omega.{arith}
use lib.ListN.{length, length-append}
use lib.Dec.{eqb}
use borrow.Author.Tests.{leb-true, ltb-true, ltb-false, not-false, eq-eqb}
use Rattle.octets.specs.Basics.{pick, over, first}
use Rattle.octets.proofs.Choices.{and_true, none_holds, or_false, pick_lt}
use Rattle.octets.proofs.Written.{over_over}
use Rattle.trailer.specs.Trailer.{ended}
use Rattle.trailer.proofs.Setting.{ended_over}
use Rattle.frames.specs.Link.{count_width, next_count}
use Rattle.frames.specs.BitFrame.{bits_in_range, bit_frame_length, bit_head, bit_head_rows, most_width, most_bits}
use Rattle.frames.specs.declared.bits.BitSettings.{BitSettings}
use Rattle.frames.proofs.bits.Settled.{BitsSettled, bits_settled}
use Rattle.frames.proofs.bits.Heads.{bit_head_taken, length-bit_head}
use Rattle.bitstream.specs.Bitstream.{octets_for, pointer_for, writer_reachable, write_rows, frame_with, zone_with, wrote, written}
use Rattle.bitstream.specs.declared.Writer.{Writer}
use Rattle.bitstream.proofs.Pointers.{pointer_used}
use Rattle.bitstream.proofs.Sizes.{octets_fit}
use Rattle.bitstream.proofs.Zones.{length_zone}

-- a table of which no row holds
pub record Allowed (s : BitSettings) (w : Writer) (n lent room : ℕ) : Type 0 where
  pub in_range : bits_in_range s ≡ true
  pub inside : n ≤ most_bits s
  pub room_enough : bit_frame_length s ≤ room
  pub lent_enough : octets_for n ≤ lent
  pub counted : w.count < 2 ^ count_width s.link

pub allowed : (s : BitSettings) (w : Writer) (n lent room : ℕ) → first (write_rows s w n lent room) ≡ 0 → Allowed s w n lent room
unfolding write_rows writer_reachable
allowed s w n lent room e =
    let one = none_holds 0 _ _ e in
    let two = none_holds 1 _ _ one.1 in
    let ten = none_holds 9 _ _ two.1 in
    let settings = and_true _ _ (not-false _ one.0) in
    let lengths = or_false _ _ two.0 in
    record {
      in_range = settings.0;
      inside = leb-true _ _ settings.1;
      room_enough = ltb-false _ _ lengths.0;
      lent_enough = ltb-false _ _ lengths.1;
      counted = ltb-true _ _ (not-false _ ten.0);
    }

pub pointer_lt : (s : BitSettings) (n : ℕ) → n ≤ most_bits s → s.width ≤ most_width → pointer_for s n < 2 ^ 14
unfolding pointer_for
pointer_lt s n h k =
    pick_lt (eqb n 0) _ _ (2 ^ 14) (omega arith) (pick_lt (eqb n (most_bits s)) _ _ (2 ^ 14) (omega arith) (omega arith))

module _ (s : BitSettings) (w : Writer) (n : ℕ) (bits d : List ℕ) (a : Allowed s w n (length bits) (length d)) where
  abbrev settled : BitsSettled s
  settled = bits_settled s a.in_range

  head_fits : 8 ≤ length d
  unfolding bit_frame_length
  head_fits = omega (arith, a.room_enough)

  -- the head is laid
  pub headed : (r : ℕ) (e : List ℕ) → r ≡ first (bit_head_rows s w.count (pointer_for s n) d)
      → e ≡ pick (eqb r 0) (over d 0 (bit_head s w.count (pointer_for s n))) d
      → e ≡ over d 0 (bit_head s w.count (pointer_for s n))
  headed r e p q =
      let none = bit_head_taken s w.count (pointer_for s n) d a.in_range a.counted (pointer_lt s n a.inside settled.width_most) (pointer_used s settled n a.inside) head_fits in
      q ∙ ap (λ (t : Bool). pick t (over d 0 (bit_head s w.count (pointer_for s n))) d) (eq-eqb r 0 (p ∙ none))

  pub framed : (e f g : List ℕ) → e ≡ over d 0 (bit_head s w.count (pointer_for s n)) → f ≡ over e 8 (zone_with s n bits)
      → g ≡ ended s.link.trailed f (8 + s.width) → g ≡ over d 0 (frame_with s w.count n bits)
  unfolding frame_with bit_frame_length
  framed e f g p q u =
      let head : List ℕ = bit_head s w.count (pointer_for s n) in
      let eight : length head ≡ 8 = length-bit_head s w.count (pointer_for s n) in
      let os : List ℕ = head ++ zone_with s n bits in
      let long : length os ≡ 8 + s.width =
      length-append head (zone_with s n bits)
      ∙ ap₂ (λ (a b : ℕ). a + b) eight (length_zone s n bits (octets_fit n s.width a.inside) a.lent_enough) in
      let laid : f ≡ over d 0 os =
      q ∙ ap (λ (g : List ℕ). over g 8 (zone_with s n bits)) p
      ∙ ap (λ (k : ℕ). over (over d 0 head) k (zone_with s n bits)) (omega arith)
      ∙ over_over d 0 head (zone_with s n bits) (omega (arith, head_fits)) in
      u ∙ ap₂ (ended s.link.trailed) laid (sym long) ∙ ended_over s.link.trailed d os (omega (arith, a.room_enough))

-- the answer
module _ (s : BitSettings) (w : Writer) (n : ℕ) (bits d : List ℕ) where
  pub write_done : (c : ℕ) (f : List ℕ) → first (write_rows s w n (length bits) (length d)) ≡ 0 → c ≡ next_count (count_width s.link) w.count
      → f ≡ over d 0 (frame_with s w.count n bits) → wrote (record { refusal = 0; writer = record { count = c } }) f ≡ written s w bits n d
  unfolding written
  write_done c f p q h = rw (p, q, h) refl

-- The promises of `frames`: any header that is read by one law, and any that is written by another.
-- Assumes nothing.
use Prim.Native.Nat.{ℕ}
use mathlib.Core.Path.{◌≡◌, refl, sym, ap, ◌∙◌}
use mathlib.Core.List.{List}
use Rattle.std.specs.Prelude.{Result, Ok, Err}
use Rattle.octets.specs.Basics.{over, Row, first}
use Rattle.octets.specs.declared.refusals.Refusal.{Refusal}
use Rattle.octets.proofs.ByNumber.{same_number, refused_not_0}
use Rattle.frames.specs.Frame.{frame_length, frame_rows, unused, heading_rows, count, replay, pointer, heading_of, heading, head, head_rows}
use Rattle.frames.specs.BitFrame.{bit_frame_length, bit_frame_rows, bit_unused, bit_heading_rows, bit_count, bit_replay, bit_pointer, bit_heading, bit_head, bit_head_rows}
use Rattle.frames.specs.Shape.{tells}
use Rattle.frames.specs.Shape as told
use Rattle.frames.specs.declared.Heading.{Heading}
use Rattle.frames.proofs.Settings.TheLaws as packets
use Rattle.frames.proofs.bits.BitSettings.TheLaws as bits
use Rattle.demands.specs.Promises.{as_read}
use Rattle.demands.specs.calls.Frames.{Reads, OfFrames}
use Rattle.demands.proofs.Promised.{promised, exactly_where, exactly, writes_where}

-- the answers in numbers tell the answers apart
same_heading : (a b : Result Heading Refusal) → tells a ≡ tells b → a ≡ b
same_heading (Ok h) (Ok k) e = ap (λ (t : told.Heading). Ok (record { count = t.count; replay = t.replay; pointer = t.pointer })) e
same_heading (Ok h) (Err r) e = absurd (refused_not_0 r (sym (ap (λ (t : told.Heading). t.refusal) e)))
same_heading (Err r) (Ok h) e = absurd (refused_not_0 r (ap (λ (t : told.Heading). t.refusal) e))
same_heading (Err r) (Err q) e = ap Err (same_number r q (ap (λ (t : told.Heading). t.refusal) e))

heads : {asks : Type 0} → asks → (rows : List Row) (c r p : ℕ)
    → Reads (as_read asks (λ (a : Result Heading Refusal). tells a ≡ heading_of (first rows) c r p)) rows (heading_of (first rows) c r p)
unfolding heading_of
heads free rows c r p =
    promised tells (λ h. h.refusal) rows (record { refusal = 0; count = c; replay = r; pointer = p })
    (λ n. record { refusal = n; count = 0; replay = 0; pointer = 0 }) refl refl (λ n. refl)
    (record { free = free; gives = λ a m. m; one = λ a b p q. same_heading a b (p ∙ sym q) })

-- the types hold nothing that is lent, so that a function over any channel asks nothing either
pub of_frames : OfFrames
unfolding frame_length unused heading heading_rows frame_rows head head_rows bit_frame_length bit_unused bit_heading bit_heading_rows bit_frame_rows bit_head bit_head_rows
of_frames = record {
  in_range = λ s. exactly;
  link = λ s. exactly;
  zone_length = λ s. exactly;
  is_unused = λ s p. exactly;
  around = λ l. exactly;
  has_length = λ κs s len. exactly_where (packets.the_within _);
  is_short = λ κs s len. exactly_where (packets.the_within _);
  wheel_of = λ l. exactly;
  next_count = λ l c. exactly;
  missing = λ l last c. exactly;
  read_head = λ κs s f. heads (packets.the_within _) (heading_rows s f.now) (count s f.now) (replay s f.now) (pointer s f.now);
  write_head = λ κs s c p buf. writes_where (packets.the_within _) (head_rows s c p buf.now) (over buf.now 0 (head s c p)) buf.now;
  bits_in_range = λ s. exactly;
  bits_link = λ s. exactly;
  bits_zone_length = λ s. exactly;
  bits_is_unused = λ s p. exactly;
  bits_has_length = λ κs s len. exactly_where (bits.the_within _);
  bits_is_short = λ κs s len. exactly_where (bits.the_within _);
  bits_read_head = λ κs s f. heads (bits.the_within _) (bit_heading_rows s f.now) (bit_count s f.now) (bit_replay s f.now) (bit_pointer s f.now);
  bits_write_head = λ κs s c p buf. writes_where (bits.the_within _) (bit_head_rows s c p buf.now) (over buf.now 0 (bit_head s c p)) buf.now;
}

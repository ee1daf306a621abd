-- What a frame is refused for, by its octets.
-- Assumes nothing.
use Rattle.std.proofs.Common.{◌≡◌, ℕ, ◌+◌, ◌*◌, ◌/◌, ◌%◌, ◌^◌, ◌<◌, Bool, true, false, not, eqb, ltb, List, [], ◌∷◌, length, refl, ap, ◌∙◌, arith, ltb-true, eq-eqb}
use borrow.Author.Tests.{not-false}
use Rattle.octets.specs.Basics.{and, AllOctets, number, number_from, Row, row, first}
use Rattle.octets.proofs.Choices.{none_holds, and_true, refusal_kept}
use Rattle.words.specs.Fields.{field, read}
use Rattle.trailer.specs.Trailer.{wrong}
use Rattle.frames.specs.Edition.{seven_place, signals}
use Rattle.frames.specs.Link.{version_place, spacecraft_place, channel_place, primary, zone_head, header_rows, written_rows, count_width}
use Rattle.frames.specs.Shape.{Shape, shape_length, spare_above, pointer_at, shape_unused, shape_rows, heading_of}
use Rattle.frames.specs.Frame.{in_range, packet_shape, frame_length, frame_rows, heading_rows, unused, head_rows}
use Rattle.frames.specs.BitFrame.{bits_in_range, bits_shape, bit_frame_length, bit_frame_rows, bit_heading_rows, bit_heading, bit_unused, bit_head_rows}
use Rattle.frames.specs.Editions.{right_octet, by_octets, RefusedBy, OnWheel}
use Rattle.frames.specs.declared.Edition.{Edition}
use Rattle.frames.specs.declared.Edition.TheVariants.{Former, CycleUnused, CycleUsed}
use Rattle.frames.specs.Shape.{Heading}
use Rattle.frames.specs.declared.Link.{Link}
use Rattle.frames.specs.declared.bits.BitSettings.{BitSettings}
use Rattle.frames.proofs.Accepted.{heading_refusal}
use Rattle.frames.proofs.Signals.{same_signals, used_flags}

-- the fields of a header's number, octet by octet
module _ (a b c₁ c₂ c₃ o : ℕ) (all : AllOctets (a ∷ b ∷ c₁ ∷ c₂ ∷ c₃ ∷ o ∷ [])) where
  abbrev word : ℕ
  word = number (a ∷ b ∷ c₁ ∷ c₂ ∷ c₃ ∷ o ∷ [])

  version_octet : read version_place word ≡ a / 64
  unfolding number number_from field
  version_octet = omega arith

  spacecraft_octets : read spacecraft_place word ≡ a % 64 * 4 + b / 64
  unfolding number number_from field
  spacecraft_octets = omega arith

  channel_octet : read channel_place word ≡ b % 64
  unfolding number number_from field
  channel_octet = omega arith

  seven_octet : read seven_place word ≡ o % 128
  unfolding number number_from field
  seven_octet = omega arith

  flags_octet : field word 4 3 ≡ o / 16 % 8
  unfolding number number_from field
  flags_octet = omega arith

  signals_octet : (e : Edition) → signals e word ≡ right_octet e o
  unfolding signals right_octet
  signals_octet Former = ap (λ (n : ℕ). eqb n 0) seven_octet
  signals_octet CycleUnused = same_signals word ∙ ap (λ (n : ℕ). eqb n 0) seven_octet
  signals_octet CycleUsed = used_flags word ∙ ap (λ (n : ℕ). eqb n 4) flags_octet

-- and of a zone's header, over the bits of its pointer that stand in its first octet
module _ (x y : ℕ) (all : AllOctets (x ∷ y ∷ [])) where
  abbrev zone_word : ℕ
  zone_word = number (x ∷ y ∷ [])

  spare_octet : read (spare_above 11) zone_word ≡ x / 8
  unfolding number number_from field
  spare_octet = omega arith

  pointer_octets : read (pointer_at 11) zone_word ≡ x % 8 * 256 + y
  unfolding number number_from field
  pointer_octets = omega arith

  bit_spare_octet : read (spare_above 14) zone_word ≡ x / 64
  unfolding number number_from field
  bit_spare_octet = omega arith

  bit_pointer_octets : read (pointer_at 14) zone_word ≡ x % 64 * 256 + y
  unfolding number number_from field
  bit_pointer_octets = omega arith

-- a frame of a shape, by its octets
module _ (h : Shape) (a b c₁ c₂ c₃ o x y : ℕ) (zone : List ℕ) (all : AllOctets (a ∷ b ∷ c₁ ∷ c₂ ∷ c₃ ∷ o ∷ x ∷ y ∷ [])) where
  abbrev frame : List ℕ
  frame = a ∷ b ∷ c₁ ∷ c₂ ∷ c₃ ∷ o ∷ x ∷ y ∷ zone

  six : AllOctets (a ∷ b ∷ c₁ ∷ c₂ ∷ c₃ ∷ o ∷ [])
  six = (all.0, (all.1.0, (all.1.1.0, (all.1.1.1.0, (all.1.1.1.1.0, (all.1.1.1.1.1.0, tt))))))

  two : AllOctets (x ∷ y ∷ [])
  two = all.1.1.1.1.1.1

  shape_refused : (spare p : ℕ) → read (spare_above h.width) (zone_word x y two) ≡ spare → read (pointer_at h.width) (zone_word x y two) ≡ p
      → length frame ≡ shape_length h → wrong h.link.trailed frame ≡ false
      → first (shape_rows h frame) ≡ by_octets h.link a b o spare (shape_unused h p)
  unfolding primary zone_head header_rows first by_octets
  shape_refused spare p s q long right =
      rw (
        eq-eqb (length frame) (shape_length h) long,
        right,
        version_octet a b c₁ c₂ c₃ o six,
        spacecraft_octets a b c₁ c₂ c₃ o six,
        channel_octet a b c₁ c₂ c₃ o six,
        signals_octet a b c₁ c₂ c₃ o six h.link.edition,
        s,
        q,
      )
      refl

-- the settings are in range
ranged : (settled : Bool) (rows : List Row) → settled ≡ true → first (row 1 (not settled) ∷ rows) ≡ first rows
unfolding first
ranged settled rows e = rw e refl

bit_heading_refusal : (s : BitSettings) (f : List ℕ) → (bit_heading s f).refusal ≡ first (bit_heading_rows s f)
unfolding bit_heading heading_of
bit_heading_refusal s f = refusal_kept (λ (g : Heading). g.refusal) (first (bit_heading_rows s f)) _ _ refl refl

pub refused_by : RefusedBy
unfolding heading_rows frame_rows frame_length unused bit_heading_rows bit_frame_rows bit_frame_length bit_unused
refused_by = record {
  packets = λ s a b c₁ c₂ c₃ o x y zone ok all long right.
      let h : Shape = packet_shape s in
      let pair = two h a b c₁ c₂ c₃ o x y zone all in
      heading_refusal s _
      ∙ ranged (in_range s) _ ok
      ∙ shape_refused h a b c₁ c₂ c₃ o x y zone all (x / 8) (x % 8 * 256 + y) (spare_octet x y pair) (pointer_octets x y pair) long right;
  bits = λ s a b c₁ c₂ c₃ o x y zone ok all long right.
      let h : Shape = bits_shape s in
      let pair = two h a b c₁ c₂ c₃ o x y zone all in
      bit_heading_refusal s _
      ∙ ranged (bits_in_range s) _ ok
      ∙ shape_refused h a b c₁ c₂ c₃ o x y zone all (x / 64) (x % 64 * 256 + y) (bit_spare_octet x y pair) (bit_pointer_octets x y pair) long right;
}

-- ---- what is written

written_on_wheel : (l : Link) (settled : Bool) (c : ℕ) (pointed : Bool) (buffer : List ℕ) → first (written_rows l settled c pointed buffer) ≡ 0
    → c < 2 ^ count_width l
unfolding written_rows
written_on_wheel l settled c pointed buffer e =
    let counted : Bool = ltb c (2 ^ count_width l) in
    let a = and_true settled (and counted pointed) (not-false _ (none_holds 0 _ _ e).0) in
    ltb-true c (2 ^ count_width l) (and_true counted pointed a.1).0

pub on_wheel : OnWheel
unfolding head_rows bit_head_rows
on_wheel = record {
  packets = λ s c p buffer. written_on_wheel s.link (in_range s) c _ buffer;
  bits = λ s c p buffer. written_on_wheel s.link (bits_in_range s) c _ buffer;
}

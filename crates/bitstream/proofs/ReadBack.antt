-- What is written is read back, and what is read has its bits where they are said to be.
-- Assumes nothing.
use mathlib.Core.Path.{◌≡◌, refl, sym, ap, ◌∙◌}
use mathlib.Core.List.{List, ◌++◌}
use mathlib.Core.Bool.{Bool, true, false}
use Prim.Native.Nat.{ℕ, ◌+◌, ◌/◌, ◌%◌, ◌^◌, ◌≤◌, ◌<◌}
use native.Mathlib.Omega.{arith}
use lib.ListN.{length, take, drop, length-append, length-drop}
use lib.Seq.{take_at, drop_at, get_or-take, length-take-le}
use borrow.Author.Tests.{le-leb, lt-ltb, eq-eqb}
use Rattle.octets.specs.Basics.{AllOctets, pick, over, first}
use Rattle.words.specs.Fields.{read}
use Rattle.words.proofs.Fields.{field_lt}
use Rattle.octets.proofs.Fronts.{all_take, all_drop}
use Rattle.octets.proofs.Written.{over-take}
use Rattle.trailer.specs.Trailer.{wrong}
use Rattle.trailer.proofs.Setting.{length-sent, sent_front, sent_part, sent_right}
use Rattle.frames.specs.Link.{headers, zone_head, count_width}
use Rattle.frames.specs.BitFrame.{bits_in_range, bit_frame_length, bit_frame_rows, bit_head, bit_zone_of, bit_count, bit_replay, bit_spare_place, bit_pointer_place, bit_pointer, bit_pointer_word, most_bits}
use Rattle.frames.specs.Statements.{HeadersBack}
use Rattle.frames.specs.declared.bits.BitSettings.{BitSettings}
use Rattle.frames.proofs.ReadBack.{length-headers}
use Rattle.frames.proofs.bits.Settled.{BitsSettled, bits_settled}
use Rattle.frames.proofs.bits.Heads.{length-bit_head, bit_head_back, bit_frame_taken, SoundBits, sound_bits, bit_frame_again}
use Rattle.bitstream.specs.Bitstream.{octets_for, bit_at, bit_place, pointer_for, valid_bits, zone_with, frame_with, write_rows, Wrote, written, reader_reachable, read_rows, loss_flag, next_reader, reading, leading_octets}
use Rattle.bitstream.specs.Statements.{ReadBack, HasBits}
use Rattle.bitstream.specs.declared.Writer.{Writer}
use Rattle.bitstream.specs.declared.Reader.{Reader}
use Rattle.bitstream.proofs.Answers.{write_refusal, read_refusal}
use Rattle.bitstream.proofs.Sizes.{octets_fit, leading_some}
use Rattle.bitstream.proofs.Zones.{length_zone, zone_bit}
use Rattle.bitstream.proofs.Writes.{Allowed, allowed, pointer_lt, write_done}
use Rattle.bitstream.proofs.Readings.{Readable, readable}
use Rattle.bitstream.proofs.Pointers.{valid_pointer, pointer_used, pointer_again, valid_most}

-- the bits of a front are those of the whole
bit-take : (m : ℕ) (os : List ℕ) (i : ℕ) → i / 8 < m → bit_at (take m os) i ≡ bit_at os i
unfolding bit_at
bit-take m os i h = ap (read (bit_place (i % 8))) (get_or-take m os (i / 8) 0 h)

-- a frame with n bits
module _ (s : BitSettings) (range : bits_in_range s ≡ true) (c n : ℕ) (bits : List ℕ) (wheel : c < 2 ^ count_width s.link) (inside : n ≤ most_bits s) (lent : octets_for n ≤ length bits) where
  abbrev settled : BitsSettled s
  settled = bits_settled s range

  abbrev f : List ℕ
  f = frame_with s c n bits

  -- what stands before the trailer
  abbrev octets_before : List ℕ
  octets_before = bit_head s c (pointer_for s n) ++ zone_with s n bits

  octets_inside : octets_for n ≤ s.width
  octets_inside = octets_fit n s.width inside

  pub length-frame : length f ≡ bit_frame_length s
  unfolding frame_with bit_frame_length
  length-frame = omega (arith, length-sent s.link.trailed octets_before, length-append (bit_head s c (pointer_for s n)) (zone_with s n bits), length-bit_head s c (pointer_for s n), length_zone s n bits octets_inside lent)

  headed : take 8 f ≡ bit_head s c (pointer_for s n)
  unfolding frame_with
  headed =
      sent_front s.link.trailed octets_before 8 (omega (arith, length-append (bit_head s c (pointer_for s n)) (zone_with s n bits), length-bit_head s c (pointer_for s n)))
      ∙ take_at (bit_head s c (pointer_for s n)) (zone_with s n bits) 8 (length-bit_head s c (pointer_for s n))

  zoned : take (octets_for n) (drop 8 f) ≡ take (octets_for n) (zone_with s n bits)
  unfolding frame_with
  zoned =
      sent_part s.link.trailed octets_before 8 (octets_for n)
      (omega (arith, octets_inside, length-append (bit_head s c (pointer_for s n)) (zone_with s n bits), length-bit_head s c (pointer_for s n), length_zone s n bits octets_inside lent))
      ∙ ap (take (octets_for n)) (drop_at (bit_head s c (pointer_for s n)) (zone_with s n bits) 8 (length-bit_head s c (pointer_for s n)))

  right : wrong s.link.trailed f ≡ false
  unfolding frame_with
  right = sent_right s.link.trailed octets_before

  short : pointer_for s n < 2 ^ 14
  short = pointer_lt s n inside settled.width_most

  back : HeadersBack s.link bit_spare_place bit_pointer_place c 0 (pointer_for s n) f
  back = bit_head_back s c (pointer_for s n) f range wheel short headed

  taken : first (bit_frame_rows s f) ≡ 0
  taken = bit_frame_taken s back length-frame right (pointer_used s settled n inside)

  said : (x : Reader) → reader_reachable s x ≡ true
      → reading s x f ≡ record { refusal = 0; count = c; replay = 0; bits = n; lost = loss_flag s x c n; reader = next_reader s x c n }
  unfolding reading read_rows first
  said x reached =
      rw (range, reached, taken, back.count_back, back.replay_back, back.pointer_back, valid_pointer s settled n inside) refl

  leading : leading_octets s n f ≡ take (octets_for n) (zone_with s n bits)
  leading =
      leading_some s n f (rw (eq-eqb (length f) (bit_frame_length s) length-frame, le-leb n (most_bits s) inside) refl)
      ∙ zoned

  pub frame_read_back : AllOctets bits → (x : Reader) → reader_reachable s x ≡ true → ReadBack s x c n bits f
  unfolding octets_for
  frame_read_back octets x reached = record {
    said = said x reached;
    size = ap length leading ∙ length-take-le (octets_for n) (zone_with s n bits) (omega (arith, length_zone s n bits octets_inside lent));
    same_bits = λ i h.
        ap (λ (os : List ℕ). bit_at os i) leading
        ∙ bit-take (octets_for n) (zone_with s n bits) i (omega arith)
        ∙ zone_bit s n bits octets_inside lent octets i (omega arith)
        ∙ ap (λ (t : Bool). pick t (bit_at bits i) (read (bit_place (i % 8)) s.fill)) (lt-ltb i n h);
  }

-- what a call that is not refused writes
module _ (s : BitSettings) (w : Writer) (bits : List ℕ) (n : ℕ) (d : List ℕ) (done : (written s w bits n d).said.refusal ≡ 0) where
  none : first (write_rows s w n (length bits) (length d)) ≡ 0
  none = sym (write_refusal s w n bits d) ∙ done

  abbrev given : Allowed s w n (length bits) (length d)
  given = allowed s w n (length bits) (length d) none

  -- the front of the buffer is the frame
  pub front : take (bit_frame_length s) (written s w bits n d).frame ≡ frame_with s w.count n bits
  front =
      let frame : List ℕ = frame_with s w.count n bits in
      let long : bit_frame_length s ≡ 0 + length frame =
      omega (arith, length-frame s given.in_range w.count n bits given.counted given.inside given.lent_enough) in
      sym (ap (λ (a : Wrote). take (bit_frame_length s) a.frame) (write_done s w n bits d _ (over d 0 frame) none refl refl))
      ∙ ap (λ (k : ℕ). take k (over d 0 frame)) long
      ∙ over-take d 0 frame (omega arith)

  -- WHAT IS WRITTEN IS READ BACK, by any reader that calls reach
  pub read_back : AllOctets bits → (x : Reader) → reader_reachable s x ≡ true
      → ReadBack s x w.count n bits (take (bit_frame_length s) (written s w bits n d).frame)
  read_back octets x reached =
      rw front (frame_read_back s given.in_range w.count n bits given.counted given.inside given.lent_enough octets x reached)

-- ---- the other way round

module _ (s : BitSettings) (x : Reader) (f : List ℕ) (octets : AllOctets f) (done : (reading s x f).refusal ≡ 0) where
  clear : Readable s x f
  clear = readable s x f (sym (read_refusal s x f) ∙ done)

  abbrev bounds : BitsSettled s
  bounds = bits_settled s clear.in_range

  abbrev pointer : ℕ
  pointer = bit_pointer s f

  abbrev n : ℕ
  n = valid_bits s pointer

  abbrev sound : SoundBits s f
  sound = sound_bits s f clear.sound

  pointer_short : pointer < 2 ^ 14
  pointer_short = field_lt (zone_head s.link f) 0 14

  bits_inside : n ≤ most_bits s
  bits_inside = valid_most s bounds pointer pointer_short sound.pointer_used

  length-zone_of : length (bit_zone_of s f) ≡ s.width
  unfolding bit_zone_of bit_frame_length
  length-zone_of = length-take-le s.width (drop 8 f) (rw length-drop (omega (arith, sound.length-right)))

  front_of : leading_octets s n f ≡ take (octets_for n) (bit_zone_of s f)
  unfolding leading_octets
  front_of = rw (eq-eqb (length f) (bit_frame_length s) sound.length-right, le-leb n (most_bits s) bits_inside) refl

  front_inside : octets_for n ≤ s.width
  front_inside = octets_fit n s.width bits_inside

  size_of : length (leading_octets s n f) ≡ octets_for n
  size_of = ap length front_of ∙ length-take-le (octets_for n) (bit_zone_of s f) (omega (arith, front_inside, length-zone_of))

  same_of : (i : ℕ) → i < n → bit_at (leading_octets s n f) i ≡ bit_at (bit_zone_of s f) i
  unfolding octets_for
  same_of i h = ap (λ (os : List ℕ). bit_at os i) front_of ∙ bit-take (octets_for n) (bit_zone_of s f) i (omega arith)

  octets_front : AllOctets (leading_octets s n f)
  unfolding bit_zone_of
  octets_front = rw front_of (all_take (octets_for n) _ (all_take s.width _ (all_drop 8 f octets)))

  head_of : take 8 f ≡ headers s.link (bit_count s f) (bit_replay s f) (bit_pointer_word (pointer_for s n))
  head_of =
      ap (take 8) (bit_frame_again s f bounds octets clear.sound)
      ∙ sent_front s.link.trailed (headers s.link (bit_count s f) (bit_replay s f) (bit_pointer_word pointer) ++ bit_zone_of s f) 8
      (omega (arith, length-append (headers s.link (bit_count s f) (bit_replay s f) (bit_pointer_word pointer)) (bit_zone_of s f), length-headers s.link (bit_count s f) (bit_replay s f) (bit_pointer_word pointer)))
      ∙ take_at (headers s.link (bit_count s f) (bit_replay s f) (bit_pointer_word pointer)) (bit_zone_of s f) 8 (length-headers s.link _ _ _)
      ∙ ap (λ (p : ℕ). headers s.link (bit_count s f) (bit_replay s f) (bit_pointer_word p)) (sym (pointer_again s bounds pointer pointer_short sound.pointer_used))

  again_of : (i : ℕ) → i < n → bit_at (zone_with s n (leading_octets s n f)) i ≡ bit_at (bit_zone_of s f) i
  again_of i h =
      zone_bit s n (leading_octets s n f) front_inside (omega (arith, size_of)) octets_front i (omega (arith, bits_inside))
      ∙ ap (λ (t : Bool). pick t (bit_at (leading_octets s n f) i) (read (bit_place (i % 8)) s.fill)) (lt-ltb i n h)
      ∙ same_of i h

  bits_said : (reading s x f).bits ≡ n
  unfolding reading
  bits_said = rw (sym (read_refusal s x f) ∙ done) refl

  -- WHAT IS READ HAS ITS BITS
  pub has_bits : HasBits s (reading s x f).bits f
  unfolding octets_for
  has_bits = rw bits_said record {
    inside = bits_inside;
    size = size_of;
    enough = omega arith;
    fewest = omega arith;
    same_bits = same_of;
    same_head = head_of;
    same_again = again_of;
  }

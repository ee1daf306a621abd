-- The headers of a bitstream frame: written, read back, and written again from what is read.
-- Assumes nothing.
use Rattle.std.proofs.Common.{◌≡◌, ℕ, ◌^◌, ◌<◌, ◌≤◌, true, false, List, ◌++◌, length, take, arith}
use Rattle.octets.specs.Basics.{AllOctets, first}
use Rattle.trailer.specs.Trailer.{sent, wrong}
use Rattle.frames.specs.Link.{headers, count_width}
use Rattle.frames.specs.BitFrame.{bits_in_range, bits_shape, bit_frame_length, bit_frame_rows, bit_zone_of, bit_count, bit_replay, bit_spare_place, bit_pointer, bit_pointer_place, bit_unused, bit_head, bit_head_rows, bit_pointer_word}
use Rattle.frames.specs.Statements.{HeadersBack}
use Rattle.frames.specs.declared.bits.BitSettings.{BitSettings}
use Rattle.frames.proofs.Rows.{sound_frame}
use Rattle.frames.proofs.ReadBack.{length-headers, headers_back, shape_taken, shape_again}
use Rattle.frames.proofs.Heads.{written_taken}
use Rattle.frames.proofs.bits.Settled.{BitsSettled, bits_settled}

pub bit_head_taken : (s : BitSettings) (c p : ℕ) (d : List ℕ) → bits_in_range s ≡ true → c < 2 ^ count_width s.link → p < 2 ^ 14
    → bit_unused s p ≡ false → 8 ≤ length d → first (bit_head_rows s c p d) ≡ 0
unfolding bit_head_rows bit_unused
bit_head_taken s c p d = written_taken (bits_shape s) c p d

pub length-bit_head : (s : BitSettings) (c p : ℕ) → length (bit_head s c p) ≡ 8
unfolding bit_head
length-bit_head s c p = length-headers s.link c 0 (bit_pointer_word p)

-- a frame that begins with its written head is read back
pub bit_head_back : (s : BitSettings) (c p : ℕ) (f : List ℕ) → bits_in_range s ≡ true → c < 2 ^ count_width s.link → p < 2 ^ 14
    → take 8 f ≡ bit_head s c p → HeadersBack s.link bit_spare_place bit_pointer_place c 0 p f
unfolding bit_head
bit_head_back s c p f ok fits = headers_back s.link 14 c 0 p f (bits_settled s ok).on_link (omega arith) fits (omega arith)

-- and it is not refused, where its length and its trailer are right and its pointer one that is used
pub bit_frame_taken : (s : BitSettings) {c r p : ℕ} {f : List ℕ} → HeadersBack s.link bit_spare_place bit_pointer_place c r p f
    → length f ≡ bit_frame_length s → wrong s.link.trailed f ≡ false → bit_unused s p ≡ false → first (bit_frame_rows s f) ≡ 0
unfolding bit_frame_rows bit_frame_length bit_unused
bit_frame_taken s = shape_taken (bits_shape s)

-- what a frame that is not refused is like
pub record SoundBits (s : BitSettings) (f : List ℕ) : Type 0 where
  pub length-right : length f ≡ bit_frame_length s
  pub pointer_used : bit_unused s (bit_pointer s f) ≡ false

pub sound_bits : (s : BitSettings) (f : List ℕ) → first (bit_frame_rows s f) ≡ 0 → SoundBits s f
unfolding bit_frame_rows bit_frame_length bit_unused
sound_bits s f e =
    let sound = sound_frame (bits_shape s) f e in
    record { length-right = sound.length-right; pointer_used = sound.header.pointer_used }

-- a frame that is not refused is its headers, written again from what is read, and its zone, sent
pub bit_frame_again : (s : BitSettings) (f : List ℕ) → BitsSettled s → AllOctets f → first (bit_frame_rows s f) ≡ 0
    → f ≡ sent s.link.trailed (headers s.link (bit_count s f) (bit_replay s f) (bit_pointer_word (bit_pointer s f)) ++ bit_zone_of s f)
unfolding bit_frame_rows bit_zone_of
bit_frame_again s f range = shape_again (bits_shape s) f range.on_link (omega arith)

-- Reading: the answer by what the header says.
-- Assumes nothing.
use mathlib.Core.Path.{◌≡◌, refl, ap, ◌∙◌}
use mathlib.Core.List.{List}
use mathlib.Core.Bool.{true}
use Prim.Native.Nat.{ℕ}
use borrow.Author.Tests.{not-false}
use Rattle.octets.specs.Basics.{first}
use Rattle.octets.proofs.Choices.{none_holds}
use Rattle.frames.specs.Frame.{heading_of}
use Rattle.frames.specs.BitFrame.{bits_in_range, bit_frame_rows, bit_heading_rows, bit_heading}
use Rattle.frames.specs.declared.bits.BitSettings.{BitSettings}
use Rattle.frames.specs.Shape.{Heading}
use Rattle.bitstream.specs.Bitstream.{valid_bits, reader_reachable, read_rows, loss_flag, next_reader, reading}
use Rattle.bitstream.specs.declared.Reader.{Reader}
use Rattle.octets.proofs.Choices.{refusal_kept}

-- a table of which no row holds
pub record Readable (s : BitSettings) (x : Reader) (f : List ℕ) : Type 0 where
  pub in_range : bits_in_range s ≡ true
  pub reached : reader_reachable s x ≡ true
  pub sound : first (bit_frame_rows s f) ≡ 0

pub readable : (s : BitSettings) (x : Reader) (f : List ℕ) → first (read_rows s x f) ≡ 0 → Readable s x f
unfolding read_rows
readable s x f e =
    let one = none_holds 0 _ _ e in
    let ten = none_holds 9 _ _ one.1 in
    record { in_range = not-false _ one.0; reached = not-false _ ten.0; sound = ten.1 }

module _ (s : BitSettings) (x : Reader) (f : List ℕ) where
  -- settings in range and a record that passes leave the refusal to the header
  pub head_refusal : (h : Heading) → h ≡ bit_heading s f → bits_in_range s ≡ true → reader_reachable s x ≡ true → h.refusal ≡ first (read_rows s x f)
  unfolding read_rows bit_heading bit_heading_rows heading_of first
  head_refusal h e fit reached =
      rw (reached, fit)
      (rw fit at (ap (λ (g : Heading). g.refusal) e ∙ refusal_kept (λ (g : Heading). g.refusal) (first (bit_heading_rows s f)) _ _ refl refl))

  pub read_done : (h : Heading) → h ≡ bit_heading s f → first (read_rows s x f) ≡ 0
      → record { refusal = 0; count = h.count; replay = h.replay; bits = valid_bits s h.pointer; lost = loss_flag s x h.count (valid_bits s h.pointer); reader = next_reader s x h.count (valid_bits s h.pointer) }
      ≡ reading s x f
  unfolding reading bit_heading bit_heading_rows heading_of first
  read_done h e r = rw (e, (readable s x f r).in_range, (readable s x f r).sound, r) refl

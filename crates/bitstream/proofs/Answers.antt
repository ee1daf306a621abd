-- The refusal of an answer is the first row that holds, and a refused call keeps its record and its buffers.
-- Assumes nothing.
use mathlib.Core.Path.{◌≡◌, refl}
use mathlib.Core.List.{List}
use mathlib.Core.Bool.{false}
use Prim.Native.Nat.{ℕ}
use lib.ListN.{length}
use borrow.Author.Tests.{ne_eqb}
use Rattle.octets.specs.Basics.{first}
use Rattle.octets.proofs.Choices.{refusal_kept}
use Rattle.frames.specs.declared.bits.BitSettings.{BitSettings}
use Rattle.bitstream.specs.Bitstream.{write_rows, Wrote, wrote, written, read_rows, Reading, reading}
use Rattle.bitstream.specs.declared.Writer.{Writer}
use Rattle.bitstream.specs.declared.Reader.{Reader}

module _ (s : BitSettings) (w : Writer) (n : ℕ) (bits d : List ℕ) where
  pub write_refusal : (written s w bits n d).said.refusal ≡ first (write_rows s w n (length bits) (length d))
  unfolding written
  write_refusal = refusal_kept (λ (a : Wrote). a.said.refusal) (first (write_rows s w n (length bits) (length d))) _ _ refl refl

  pub write_refused : (r : ℕ) → r ≡ first (write_rows s w n (length bits) (length d)) → (r ≡ 0 → ⊥)
      → wrote (record { refusal = r; writer = w }) d ≡ written s w bits n d
  unfolding written
  write_refused r p h = rw (← p, ne_eqb r 0 h) refl

module _ (s : BitSettings) (x : Reader) (f : List ℕ) where
  pub read_refusal : (reading s x f).refusal ≡ first (read_rows s x f)
  unfolding reading
  read_refusal = refusal_kept (λ (a : Reading). a.refusal) (first (read_rows s x f)) _ _ refl refl

  pub read_refused : (r : ℕ) → r ≡ first (read_rows s x f) → (r ≡ 0 → ⊥)
      → record { refusal = r; count = 0; replay = 0; bits = 0; lost = false; reader = x } ≡ reading s x f
  unfolding reading
  read_refused r e h = rw (← e, ne_eqb r 0 h) refl

-- The answers in numbers tell the answers apart: two outcomes that meet a promise are equal.
-- Assumes nothing.
use mathlib.Core.Path.{◌≡◌, sym, ap, ◌∙◌}
use Rattle.std.specs.Prelude.{Result, Ok, Err}
use Rattle.octets.specs.declared.refusals.Refusal.{Refusal}
use Rattle.octets.proofs.ByNumber.{same_number, refused_not_0}
use Rattle.bitstream.specs.Bitstream.{Written, writes, Reading, reads}
use Rattle.bitstream.specs.declared.Writer.{Writer}
use Rattle.bitstream.specs.declared.Reader.{Reader}
use Rattle.bitstream.specs.declared.Reading as said

same_writing : (w : Writer) (a b : Result Writer Refusal) → writes w a ≡ writes w b → a ≡ b
same_writing w (Ok v) (Ok u) e = ap (λ (x : Written). Ok x.writer) e
same_writing w (Ok v) (Err q) e = absurd (refused_not_0 q (sym (ap (λ (x : Written). x.refusal) e)))
same_writing w (Err r) (Ok u) e = absurd (refused_not_0 r (ap (λ (x : Written). x.refusal) e))
same_writing w (Err r) (Err q) e = ap Err (same_number r q (ap (λ (x : Written). x.refusal) e))

-- the answer of a call that writes
pub writes_determined : (w : Writer) {a b : Result Writer Refusal} {x : Written} → writes w a ≡ x → writes w b ≡ x → a ≡ b
writes_determined w {a} {b} p q = same_writing w a b (p ∙ sym q)

same_reading : (x : Reader) (a b : Result said.Reading Refusal) → reads x a ≡ reads x b → a ≡ b
same_reading x (Ok v) (Ok u) e =
    ap (λ (y : Reading). Ok (record { count = y.count; replay = y.replay; bits = y.bits; lost = y.lost; reader = y.reader })) e
same_reading x (Ok v) (Err q) e = absurd (refused_not_0 q (sym (ap (λ (y : Reading). y.refusal) e)))
same_reading x (Err r) (Ok u) e = absurd (refused_not_0 r (ap (λ (y : Reading). y.refusal) e))
same_reading x (Err r) (Err q) e = ap Err (same_number r q (ap (λ (y : Reading). y.refusal) e))

-- the answer of a call that reads
pub reads_determined : (x : Reader) {a b : Result said.Reading Refusal} {y : Reading} → reads x a ≡ y → reads x b ≡ y → a ≡ b
reads_determined x {a} {b} p q = same_reading x a b (p ∙ sym q)

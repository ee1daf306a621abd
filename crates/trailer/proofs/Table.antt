-- The table of remainders: its rule, computed once over all 256 entries, and what it is good for at each octet.
-- Assumes nothing.
use mathlib.Core.Path.{◌≡◌, sym, ap, ap₂, ◌∙◌}
use mathlib.Core.Bool.{Bool, true}
use mathlib.Core.List.{List, ◌++◌}
use Prim.Native.Nat.{ℕ, ◌+◌, ◌*◌, ◌/◌, ◌%◌, ◌^◌, ◌<◌}
use native.Mathlib.Omega.{arith}
use lib.Dec.{eqb}
use lib.ListN.{get_or}
use lib.Bits.{bit_xor, xor_block, xor_shifted, xor_lt, xor_zero_r, xor_comm}
use borrow.Author.Tests.{eqb-true}
use Rattle.octets.proofs.Every.{below, at}
use Rattle.trailer.specs.Division.{divided, bits, modulo, sixteen_zeros, Remainders}
use Rattle.trailer.proofs.Moves.{moves, moves_xor, moves_up, bits_bits, taken_bits}
use Rattle.trailer.proofs.LongDivision.{zeros_behind}

-- THE TABLE'S RULE: a test that is computed over all of a table at once, and what it says of each entry
abbrev entry_test : List ℕ → ℕ → Bool
entry_test t o = eqb (get_or t o 0) (modulo 0 (bits 8 o ++ sixteen_zeros))

abbrev pub test_all : List ℕ → Bool
test_all t = below 256 (entry_test t)

pub table_rule : (t : List ℕ) → test_all t ≡ true → Remainders t
table_rule t passed = record { entry = λ o h. eqb-true _ _ (at 256 (entry_test t) passed o h) }

-- the high half of the register with the octet added is an octet
pub place_lt : (r o : ℕ) → r < 2 ^ 16 → o < 2 ^ 8 → bit_xor (r / 2 ^ 8) o < 2 ^ 8
place_lt r o hr ho = xor_lt 8 (r / 2 ^ 8) o (omega arith) ho

-- AN OCTET AT ONCE: the low half of the register moves up, and the entry for the sum of its high half and the octet is added
pub octet_step : (t : List ℕ) → Remainders t → (r o : ℕ) → r < 2 ^ 16 → o < 2 ^ 8
    → bit_xor (r * 2 ^ 8 % 2 ^ 16) (get_or t (bit_xor (r / 2 ^ 8) o) 0) ≡ divided r (bits 8 o)
octet_step t table r o hr ho =
    ap (bit_xor (r * 2 ^ 8 % 2 ^ 16)) (table.entry q hq ∙ zeros_behind (bits 8 q) (bits_bits 8 q) ∙ taken_bits 8 0 q (omega arith) (omega arith) hq)
    ∙ ap (λ (x : ℕ). bit_xor x (moves 8 (q * 2 ^ 8))) low_moved
    ∙ xor_comm (moves 8 l) (moves 8 (q * 2 ^ 8))
    ∙ sym (moves_xor 8 (q * 2 ^ 8) l (omega (arith, hq)) (omega arith))
    ∙ ap (moves 8) (xor_shifted q 8 l (omega arith) ∙ sym parts)
    ∙ sym (taken_bits 8 r o hr (omega arith) ho)
  where
    q : ℕ
    q = bit_xor (r / 2 ^ 8) o

    l : ℕ
    l = r % 2 ^ 8

    hq : q < 2 ^ 8
    hq = place_lt r o hr ho

    low_moved : r * 2 ^ 8 % 2 ^ 16 ≡ moves 8 l
    low_moved =
        let e : r * 2 ^ 8 % 2 ^ 16 ≡ r % 2 ^ 8 * 2 ^ 8 = omega arith in
        e ∙ sym (moves_up 8 (r % 2 ^ 8) (omega arith))

    parts : bit_xor r (o * 2 ^ 8) ≡ q * 2 ^ 8 + l
    parts =
        let e : r ≡ r / 2 ^ 8 * 2 ^ 8 + r % 2 ^ 8 = omega arith in
        let f : o * 2 ^ 8 ≡ o * 2 ^ 8 + 0 = omega arith in
        ap₂ bit_xor e f ∙ xor_block 8 (r / 2 ^ 8) o (r % 2 ^ 8) 0 (omega arith) (omega arith)
        ∙ ap (λ (x : ℕ). q * 2 ^ 8 + x) (xor_zero_r (r % 2 ^ 8))

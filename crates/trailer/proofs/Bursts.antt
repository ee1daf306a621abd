-- Bursts: wrong bits among sixteen in a row leave something.
-- Assumes nothing.
use mathlib.Core.Path.{◌≡◌, refl, sym, ap, ap₂, ◌∙◌, subst}
use mathlib.Core.Bool.{true, false}
use mathlib.Core.List.{List, [], ◌∷◌, ◌++◌}
use Prim.Native.Nat.{ℕ, zero, suc, ◌+◌, ◌-◌, ◌*◌, ◌^◌, ◌≤◌, ◌<◌}
use native.Mathlib.Nat.{mod-eq_of_lt, mul-le-mul_left}
use native.Mathlib.Omega.{arith}
use lib.ListN.{length, take, drop, get_or, length-take, take-append-drop, get_or-eq_default}
use lib.Seq.{get_or-take, get_or-drop, drop-drop, ext_get_or, take_at, drop_at}
use lib.Bits.{bit_xor, xor_zero_r, xor_self}
use lib.Pow.{pow_pos, shl_lt}
use borrow.Author.Tests.{eqb-true}
use Rattle.octets.specs.Basics.{AllOctets}
use Rattle.octets.proofs.Choices.{split}
use Rattle.octets.proofs.Fronts.{all_of_front, all_of_rest}
use Rattle.octets.proofs.Sums.{xor_apart}
use Rattle.octets.proofs.Tests.{test}
use Rattle.trailer.specs.Division.{moved, step, divided, bits, all_bits, remainder}
use Rattle.trailer.specs.Printed.{sums}
use Rattle.trailer.specs.Trailer.{right}
use Rattle.trailer.specs.WrongBits.{Received, bit, BurstsSeen}
use Rattle.trailer.proofs.Moves.{Bits, moves_none, moved_none, step_lt, divided_lt, value, value_lt, value_bits, length-bits, taken, divided-append}
use Rattle.trailer.proofs.Remainders.{all_bits_bits}
use Rattle.trailer.proofs.Right.{right_whole}
use Rattle.trailer.proofs.Linear.{sums_at, sums_bits, length-all_bits, all_bits_sum, remainders_sum}

-- ---- zeros

abbrev pub Zeros : List ℕ → Type 0
Zeros bs = (i : ℕ) → get_or bs i 0 ≡ 0

-- a register of zeros stays
divided_zeros : (bs : List ℕ) → Zeros bs → divided 0 bs ≡ 0
unfolding divided step moved
divided_zeros [] h = refl
divided_zeros (b ∷ bs) h = ap (λ (x : ℕ). divided (step 0 x) bs) (h 0) ∙ divided_zeros bs (λ i. h (suc i))

-- no other becomes zeros by zeros
step_none : (r : ℕ) → r < 2 ^ 16 → step r 0 ≡ 0 → r ≡ 0
unfolding step
step_none r hr e = moved_none r hr (ap moved (sym (xor_zero_r r)) ∙ e)

pub zeros_divided : (r : ℕ) (bs : List ℕ) → r < 2 ^ 16 → Zeros bs → divided r bs ≡ 0 → r ≡ 0
unfolding divided
zeros_divided r [] hr h e = e
zeros_divided r (b ∷ bs) hr h e =
    step_none r hr
    (zeros_divided (step r 0) bs (step_lt r 0 hr (omega arith)) (λ i. h (suc i)) (ap (λ (x : ℕ). divided (step r x) bs) (sym (h 0)) ∙ e))

no_product : (x k : ℕ) → x * 2 ^ k ≡ 0 → x ≡ 0
no_product x k e = omega (arith, mul-le-mul_left x (pow_pos k))

value_none : (bs : List ℕ) → value bs ≡ 0 → Zeros bs
unfolding value
value_none [] e i = refl
value_none (b ∷ bs) e zero = no_product b (length bs) (omega arith)
value_none (b ∷ bs) e (suc i) = value_none bs (omega arith) i

-- up to sixteen bits that leave nothing of nothing are zeros
window_none : (bs : List ℕ) → Bits bs → length bs ≤ 16 → divided 0 bs ≡ 0 → Zeros bs
window_none bs hb h e =
    let k : length bs + (16 - length bs) ≡ 16 = omega arith in
    let l : value bs * 2 ^ (16 - length bs) < 2 ^ 16 =
    subst (λ (m : ℕ). value bs * 2 ^ (16 - length bs) < 2 ^ m) k (shl_lt (length bs) (16 - length bs) (value_lt bs hb)) in
    value_none bs (no_product (value bs) (16 - length bs)
    (moves_none (length bs) (value bs * 2 ^ (16 - length bs)) l (sym (taken 0 bs (omega arith) hb h) ∙ e)))

-- ---- bits that are zeros but for sixteen in a row

module _ (k : ℕ) (e : List ℕ) (he : Bits e) (before : (i : ℕ) → i < k → get_or e i 0 ≡ 0) (after : (i : ℕ) → k + 16 ≤ i → get_or e i 0 ≡ 0) where
  abbrev a : List ℕ
  a = take k e

  abbrev w : List ℕ
  w = take 16 (drop k e)

  abbrev c : List ℕ
  c = drop (k + 16) e

  parts : e ≡ a ++ (w ++ c)
  parts =
      sym (take-append-drop k e)
      ∙ ap (λ (l : List ℕ). a ++ l) (sym (take-append-drop 16 (drop k e)) ∙ ap (λ (l : List ℕ). w ++ l) (drop-drop 16 k e))

  zeros_before : Zeros a
  zeros_before i =
      split k i (λ h. get_or-eq_default a 0 (omega (arith, length-take k e))) (λ h. get_or-take k e i 0 h ∙ before i h)

  zeros_after : Zeros c
  zeros_after i = get_or-drop (k + 16) e i 0 ∙ after (k + 16 + i) (omega arith)

  w_bits : Bits w
  w_bits = all_of_front (λ b. b < 2) 16 (drop k e) (all_of_rest (λ b. b < 2) k e he)

  within : divided 0 e ≡ 0 → Zeros w
  within z =
      window_none w w_bits (omega (arith, length-take 16 (drop k e)))
      (zeros_divided (divided 0 w) c (divided_lt 0 w (omega arith) w_bits) zeros_after
      (sym (ap (λ (r : ℕ). divided r (w ++ c)) (divided_zeros a zeros_before) ∙ divided-append 0 w c)
      ∙ sym (divided-append 0 a (w ++ c)) ∙ ap (divided 0) (sym parts) ∙ z))

  burst_zeros : divided 0 e ≡ 0 → Zeros e
  burst_zeros z i =
      split k i
      (λ h. split (k + 16) i (after i)
      (λ l. let j : k + (i - k) ≡ i = omega arith in
      ap (λ (m : ℕ). get_or e m 0) (sym j) ∙ sym (get_or-drop k e (i - k) 0) ∙ sym (get_or-take 16 (drop k e) (i - k) 0 (omega arith)) ∙ within z (i - k)))
      (before i)

-- ---- frames

-- the same bits are the same octets
same_octets : (f g : List ℕ) → AllOctets f → AllOctets g → length f ≡ length g → all_bits f ≡ all_bits g → f ≡ g
unfolding all_bits
same_octets [] [] hf hg e s = refl
same_octets [] (y ∷ g) hf hg e s = absurd (omega arith)
same_octets (x ∷ f) [] hf hg e s = absurd (omega arith)
same_octets (x ∷ f) (y ∷ g) hf hg e s =
    let first : bits 8 x ≡ bits 8 y =
    sym (take_at (bits 8 x) (all_bits f) 8 (length-bits 8 x)) ∙ ap (take 8) s ∙ take_at (bits 8 y) (all_bits g) 8 (length-bits 8 y) in
    let rest : all_bits f ≡ all_bits g =
    sym (drop_at (bits 8 x) (all_bits f) 8 (length-bits 8 x)) ∙ ap (drop 8) s ∙ drop_at (bits 8 y) (all_bits g) 8 (length-bits 8 y) in
    let o : x ≡ y = sym (value_bits 8 x ∙ mod-eq_of_lt hf.0) ∙ ap value first ∙ value_bits 8 y ∙ mod-eq_of_lt hg.0 in
    ap₂ (λ (z : ℕ) (l : List ℕ). z ∷ l) o (same_octets f g hf.1 hg.1 (omega arith) rest)

module _ (sent came : List ℕ) (arrives : Received sent came) where
  -- the wrong bits
  abbrev pub wrong : List ℕ
  wrong = sums (all_bits sent) (all_bits came)

  pub as_many_bits : length (all_bits sent) ≡ length (all_bits came)
  as_many_bits = length-all_bits sent ∙ ap (λ (n : ℕ). 8 * n) arrives.as_many ∙ sym (length-all_bits came)

  wrong_at : (i : ℕ) → get_or wrong i 0 ≡ bit_xor (bit i sent) (bit i came)
  unfolding bit
  wrong_at = sums_at (all_bits sent) (all_bits came) as_many_bits

  pub wrong_bit : Bits wrong
  wrong_bit = sums_bits (all_bits sent) (all_bits came) (all_bits_bits sent) (all_bits_bits came)

  -- where no bit is wrong, what was sent came
  pub none_wrong : Zeros wrong → sent ≡ came
  unfolding bit
  none_wrong z =
      same_octets sent came arrives.octets_sent arrives.octets_came arrives.as_many
      (ext_get_or 0 (all_bits sent) (all_bits came) as_many_bits (λ i h. xor_apart (bit i sent) (bit i came) (sym (wrong_at i) ∙ z i)))

  -- what is not seen leaves nothing
  pub seen_unless : (divided 0 wrong ≡ 0 → ⊥) → right came ≡ false
  seen_unless some = test (right came) (λ t. absurd (some (nothing t))) (λ t. t)
    where
      none : (f : List ℕ) → AllOctets f → right f ≡ true → remainder f ≡ 0
      none f small t = eqb-true (remainder f) 0 (sym (right_whole f small) ∙ t)

      nothing : right came ≡ true → divided 0 wrong ≡ 0
      nothing t =
          ap (divided 0) (sym (all_bits_sum sent came)) ∙ remainders_sum sent came arrives.as_many
          ∙ ap₂ bit_xor (none sent arrives.octets_sent arrives.right_sent) (none came arrives.octets_came t)

-- BURSTS
pub bursts_seen : BurstsSeen
bursts_seen sent came arrives other burst =
    seen_unless sent came arrives
    (λ z. other (none_wrong sent came arrives
    (burst_zeros burst.start (wrong sent came arrives) (wrong_bit sent came arrives) (λ i h. same i (burst.before i h)) (λ i h. same i (burst.after i h)) z)))
  where
    same : (i : ℕ) → bit i sent ≡ bit i came → get_or (wrong sent came arrives) i 0 ≡ 0
    same i e = wrong_at sent came arrives i ∙ ap (λ (b : ℕ). bit_xor b (bit i came)) e ∙ xor_self (bit i came)

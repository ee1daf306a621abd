-- The bounds of what the trailer is worth are sharp.
-- Assumes nothing.
use mathlib.Core.Path.{◌≡◌, refl, sym, ap, ◌∙◌}
use mathlib.Core.List.{List}
use Prim.Native.Nat.{ℕ, ◌+◌, ◌-◌, ◌≤◌}
use native.Mathlib.Omega.{arith}
use lib.ListN.{get_or, drop}
use lib.Seq.{get_or-drop}
use Rattle.octets.specs.Basics.{number, number_from, number_at}
use Rattle.trailer.specs.Division.{moved, step, divided, bits, all_bits, remainder}
use Rattle.trailer.specs.Trailer.{right}
use Rattle.trailer.specs.WrongBits.{bit, differing, wrong_bits, whole, unseen, Sharp}

behind : (f : List ℕ) (i : ℕ) → 17 ≤ i → get_or (all_bits f) i 0 ≡ get_or (drop 17 (all_bits f)) (i - 17) 0
behind f i h = let j : 17 + (i - 17) ≡ i = omega arith in ap (λ (k : ℕ). get_or (all_bits f) k 0) (sym j) ∙ sym (get_or-drop 17 (all_bits f) (i - 17) 0)

same_behind : drop 17 (all_bits whole) ≡ drop 17 (all_bits unseen)
unfolding all_bits bits
same_behind = refl

after : (i : ℕ) → 17 ≤ i → bit i whole ≡ bit i unseen
unfolding bit
after i h = behind whole i h ∙ ap (λ (l : List ℕ). get_or l (i - 17) 0) same_behind ∙ sym (behind unseen i h)

pub sharp : Sharp
unfolding remainder divided step moved bits all_bits right number number_from number_at bit differing wrong_bits
sharp = record {
  arrives = record { octets_sent = omega arith; octets_came = omega arith; as_many = refl; right_sent = refl };
  burst = record { start = 0; before = λ i h. absurd (omega arith); after = after };
  four = refl;
  not_seen = refl;
}

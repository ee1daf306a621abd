-- A frame's headers, written in two parts.
-- Assumes nothing.
use Rattle.std.proofs.Common.{◌≡◌, ℕ, ◌+◌, ◌^◌, ◌<◌, ◌≤◌, Bool, true, false, List, ◌++◌, length, refl, subst, arith, le-ltb, lt-ltb}
use Rattle.octets.specs.Basics.{octets, over, laid, first}
use Rattle.octets.proofs.Written.{laid_within, length-octets, length_over, over_over}
use Rattle.frames.specs.Link.{head_word, headers, written_rows, count_width}
use Rattle.frames.specs.Shape.{Shape, shape_unused, shape_head_rows}
use Rattle.frames.specs.Frame.{in_range, packet_shape, unused, head_rows}
use Rattle.frames.specs.declared.Link.{Link}
use Rattle.frames.specs.declared.Settings.{Settings}

-- two parts laid one after the other
two_parts : (d a b : List ℕ) (n m : ℕ) → length a ≡ n → length b ≡ m → n + m ≤ length d → laid (laid d 0 a) n b ≡ over d 0 (a ++ b)
two_parts d a b n m p q h =
    let l : length (over d 0 a) ≡ length d = length_over d 0 a (omega arith) in
    rw (laid_within d 0 a (omega arith), laid_within (over d 0 a) n b (omega arith))
    (subst (λ (k : ℕ). over (over d 0 a) k b ≡ over d 0 (a ++ b)) (omega arith) (over_over d 0 a b (omega arith)))

pub headers_laid : (l : Link) (c r z w : ℕ) (d e f : List ℕ) → 8 ≤ length d → w ≡ head_word l c r → e ≡ laid d 0 (octets 6 w)
    → f ≡ laid e 6 (octets 2 z) → f ≡ over d 0 (headers l c r z)
unfolding headers
headers_laid l c r z w d e f h q t u =
    rw (u, t, q) (two_parts d (octets 6 (head_word l c r)) (octets 2 z) 6 2 (length-octets 6 (head_word l c r)) (length-octets 2 z) h)

-- headers in range, with room for them, are not refused
pub written_taken : (h : Shape) (c p : ℕ) (d : List ℕ) {settled : Bool} → settled ≡ true → c < 2 ^ count_width h.link → p < 2 ^ h.width
    → shape_unused h p ≡ false → 8 ≤ length d → first (shape_head_rows settled h c p d) ≡ 0
unfolding first written_rows
written_taken h c p d e k short u r =
    rw (e, lt-ltb c (2 ^ count_width h.link) k, lt-ltb p (2 ^ h.width) short, u, le-ltb (length d) 8 r) refl

pub none_refused : (s : Settings) (c p : ℕ) (d : List ℕ) → in_range s ≡ true → c < 2 ^ count_width s.link → p < 2 ^ 11 → unused s p ≡ false
    → 8 ≤ length d → first (head_rows s c p d) ≡ 0
unfolding head_rows unused
none_refused s c p d = written_taken (packet_shape s) c p d

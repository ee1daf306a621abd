-- The front of a buffer: what is written over it, and what stays beyond; and a list of octets.
-- Assumes nothing.
use mathlib.Core.Path.{◌≡◌, sym, ap, ◌∙◌}
use mathlib.Core.List.{List, [], ◌∷◌, ◌++◌, append_assoc}
use Prim.Native.Nat.{ℕ, zero, suc, ◌+◌, ◌-◌, ◌/◌, ◌^◌, ◌≤◌, ◌<◌}
use native.Mathlib.Nat.{mod-lt}
use native.Mathlib.Omega.{arith}
use lib.ListN.{replicate, length, take, drop, get_or, length-append, length-drop}
use lib.Seq.{take-append-le, length-take-le, drop-append-le, drop-append-add, drop-drop}
use mir.Syntax.{w8}
use mir.Val.{Fits}
use Rattle.octets.specs.Basics.{All, AllOctets, octets, over, part}

-- what is written over a buffer, with what stands before it, is its new front
pub over_front : (buffer : List ℕ) (at : ℕ) (os : List ℕ) → at ≤ length buffer
    → over buffer at os ≡ (take at buffer ++ os) ++ drop (length (take at buffer ++ os)) buffer
unfolding over
over_front buffer at os h = simp (append_assoc, length-append, length-take-le at buffer h)

pub length-front-over : (xs buffer : List ℕ) → length xs ≤ length buffer → length (xs ++ drop (length xs) buffer) ≡ length buffer
length-front-over xs buffer h = simp (length-append, length-drop) (omega arith)

pub drop-front-over : (xs buffer : List ℕ) (n : ℕ) → length xs ≤ n → drop n (xs ++ drop (length xs) buffer) ≡ drop n buffer
drop-front-over xs buffer n h =
    let k : ℕ = n - length xs in
    let e : n ≡ length xs + k = omega arith in
    ap (λ m. drop m (xs ++ drop (length xs) buffer)) e
    ∙ drop-append-add xs (drop (length xs) buffer) k
    ∙ drop-drop k (length xs) buffer
    ∙ ap (λ m. drop m buffer) (sym e)

-- what stands in a list's first octets stands there in a longer list
pub part-append : (from to : ℕ) (xs ys : List ℕ) → from ≤ to → to ≤ length xs → part from to (xs ++ ys) ≡ part from to xs
unfolding part
part-append from to xs ys h k =
    let room : to - from ≤ length (drop from xs) = simp length-drop (omega arith) in
    rw (drop-append-le from xs ys (omega arith), take-append-le (to - from) (drop from xs) ys room)

-- ---- every element is an octet

-- so it is of a slice
pub all_known : (os : List ℕ) → ((i : ℕ) → Fits w8 (get_or os i 0)) → AllOctets os
all_known [] known = tt
all_known (o ∷ os) known = ((known 0).fits, all_known os (λ i. known (suc i)))

-- and of the octet at any place, also past the end
pub octet_lt : (os : List ℕ) → AllOctets os → (i : ℕ) → get_or os i 0 < 256
octet_lt [] small i = omega arith
octet_lt (o ∷ os) small zero = small.0
octet_lt (o ∷ os) small (suc i) = octet_lt os small.1 i

pub all_of_front {ℓ} : {A : Type ℓ} (P : A → Type 0) (n : ℕ) (xs : List A) → All P xs → All P (take n xs)
all_of_front P zero xs h = tt
all_of_front P (suc n) [] h = tt
all_of_front P (suc n) (x ∷ xs) h = (h.0, all_of_front P n xs h.1)

pub all_take : (n : ℕ) (os : List ℕ) → AllOctets os → AllOctets (take n os)
all_take = all_of_front (λ o. o < 256)

pub all_of_rest {ℓ} : {A : Type ℓ} (P : A → Type 0) (n : ℕ) (xs : List A) → All P xs → All P (drop n xs)
all_of_rest P zero xs h = h
all_of_rest P (suc n) [] h = tt
all_of_rest P (suc n) (x ∷ xs) h = all_of_rest P n xs h.1

pub all_drop : (n : ℕ) (os : List ℕ) → AllOctets os → AllOctets (drop n os)
all_drop = all_of_rest (λ o. o < 256)

pub all_joined {ℓ} : {A : Type ℓ} (P : A → Type 0) (xs ys : List A) → All P xs → All P ys → All P (xs ++ ys)
all_joined P [] ys h k = k
all_joined P (x ∷ xs) ys h k = (h.0, all_joined P xs ys h.1 k)

pub all_append : (xs ys : List ℕ) → AllOctets xs → AllOctets ys → AllOctets (xs ++ ys)
all_append = all_joined (λ o. o < 256)

pub all_same {ℓ} : {A : Type ℓ} (P : A → Type 0) (n : ℕ) {x : A} → P x → All P (replicate n x)
all_same P zero h = tt
all_same P (suc n) h = (h, all_same P n h)

pub all_filled : (n : ℕ) {o : ℕ} → o < 256 → AllOctets (replicate n o)
all_filled = all_same (λ o. o < 256)

pub all_zeros : (n : ℕ) → AllOctets (replicate n 0)
all_zeros n = all_filled n (omega arith)

pub all_octets : (k n : ℕ) → AllOctets (octets k n)
unfolding octets
all_octets zero n = tt
all_octets (suc k) n = (mod-lt (n / 256 ^ k) (omega arith), all_octets k n)

-- How the zone of n bits is laid over a frame: whole octets, fill to the zone's end, and the octet that the bits end in.
-- Assumes nothing.
use mathlib.Core.Path.{◌≡◌, sym, ap, ◌∙◌}
use mathlib.Core.List.{List, ◌∷◌, ◌++◌, append_assoc}
use Prim.Native.Nat.{ℕ, suc, ◌+◌, ◌-◌, ◌/◌, ◌%◌, ◌≤◌, ◌<◌}
use native.Mathlib.Nat.{sub-zero}
use native.Mathlib.Omega.{arith}
use lib.ListN.{length, take, drop, get_or, set, replicate, length-append, length-replicate}
use lib.Seq.{length-take-le, set_at}
use Rattle.octets.specs.Basics.{over, laid, laid_part}
use Rattle.octets.proofs.Written.{laid_within, part_within, length_over, over_over}
use Rattle.frames.specs.BitFrame.{bit_frame_length}
use Rattle.frames.specs.declared.bits.BitSettings.{BitSettings}
use Rattle.bitstream.specs.Bitstream.{octets_for, mixed, zone_with, Fits}
use Rattle.bitstream.proofs.Zones.{zone_whole, zone_mixed, length_front}

-- an element of what was written, stored anew
over_set : (d : List ℕ) (at : ℕ) (a : List ℕ) (x y : ℕ) (r : List ℕ) → at ≤ length d
    → set (over d at (a ++ (y ∷ r))) (at + length a) x ≡ over d at (a ++ (x ∷ r))
unfolding over
over_set d at a x y r h =
    let tail : (z : ℕ) → List ℕ = λ z. drop (at + length (a ++ (z ∷ r))) d in
    let same : tail y ≡ tail x = ap (λ (k : ℕ). drop (at + k) d) (length-append a (y ∷ r) ∙ sym (length-append a (x ∷ r))) in
    let apart : (z : ℕ) → take at d ++ ((a ++ (z ∷ r)) ++ tail y) ≡ (take at d ++ a) ++ (z ∷ (r ++ tail y)) =
    λ z. ap (λ (l : List ℕ). take at d ++ l) (append_assoc a (z ∷ r) (tail y)) ∙ sym (append_assoc (take at d) a (z ∷ (r ++ tail y))) in
    let long : length (take at d ++ a) ≡ at + length a =
    length-append (take at d) a ∙ ap (λ (k : ℕ). k + length a) (length-take-le at d h) in
    ap (λ (l : List ℕ). set l (at + length a) x) (apart y)
    ∙ set_at (take at d ++ a) y (r ++ tail y) x (at + length a) long
    ∙ sym (apart x)
    ∙ ap (λ (t : List ℕ). take at d ++ ((a ++ (x ∷ r)) ++ t)) same

module _ (s : BitSettings) (n : ℕ) (bits d : List ℕ) (fits : Fits s n bits d) where
  abbrev whole : ℕ
  whole = n / 8

  abbrev front : List ℕ
  front = take whole bits

  front_fits : whole ≤ length bits
  unfolding octets_for
  front_fits = omega (arith, fits.lent)

  front_long : length front ≡ whole
  front_long = length_front s n bits fits.inside fits.lent

  zone_fits : 8 + s.width ≤ length d
  unfolding bit_frame_length
  zone_fits = omega (arith, fits.room)

  whole_fits : whole ≤ s.width
  unfolding octets_for
  whole_fits = omega (arith, fits.inside)

  pub filled : (e f : List ℕ) → e ≡ laid_part d 8 0 whole bits → f ≡ laid e (8 + whole) (replicate (s.width - whole) s.fill)
      → f ≡ over d 8 (front ++ replicate (s.width - whole) s.fill)
  filled e f p q =
      let l : length (over d 8 front) ≡ length d = length_over d 8 front (omega (arith, front_long, zone_fits, whole_fits)) in
      let k : length (replicate (s.width - whole) s.fill) ≡ s.width - whole = length-replicate (s.width - whole) s.fill in
      let first : e ≡ over d 8 front =
      p ∙ part_within d 8 0 whole bits (omega arith) front_fits (omega (arith, zone_fits, whole_fits)) ∙ ap (λ (m : ℕ). over d 8 (take m bits)) (sub-zero whole) in
      q ∙ ap (λ (g : List ℕ). laid g (8 + whole) (replicate (s.width - whole) s.fill)) first
      ∙ laid_within (over d 8 front) (8 + whole) (replicate (s.width - whole) s.fill) (omega (arith, zone_fits, whole_fits))
      ∙ ap (λ (m : ℕ). over (over d 8 front) (8 + m) (replicate (s.width - whole) s.fill)) (sym front_long)
      ∙ over_over d 8 front (replicate (s.width - whole) s.fill) (omega (arith, front_long, zone_fits, whole_fits))

  pub laid_whole : (f : List ℕ) → n % 8 ≡ 0 → f ≡ over d 8 (front ++ replicate (s.width - whole) s.fill) → f ≡ over d 8 (zone_with s n bits)
  laid_whole f e h = rw (zone_whole s n bits e) h

  pub laid_mixed : (f : List ℕ) (x : ℕ) → 0 < n % 8 → f ≡ over d 8 (front ++ replicate (s.width - whole) s.fill)
      → x ≡ mixed (n % 8) (get_or bits whole 0) s.fill → set f (8 + whole) x ≡ over d 8 (zone_with s n bits)
  unfolding octets_for
  laid_mixed f x e h v =
      let k : s.width - whole ≡ suc (s.width - (whole + 1)) = omega (arith, fits.inside) in
      rw (zone_mixed s n bits e, h, ← v, k)
      (ap (λ (m : ℕ). set (over d 8 (front ++ (s.fill ∷ replicate (s.width - (whole + 1)) s.fill))) (8 + m) x) (sym front_long)
      ∙ over_set d 8 front x s.fill (replicate (s.width - (whole + 1)) s.fill) (omega (arith, zone_fits)))

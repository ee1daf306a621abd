-- A record's octets stand first among those that are not yet taken.
-- Assumes nothing.
use Rattle.std.proofs.Common.{◌≡◌, ◌+◌, ◌-◌, ◌<◌, ◌≤◌, ◌∙◌, ◌++◌, ◌∷◌, List, ℕ, suc, sym, ap, length, take, drop, get_or, arith, take-take, length-take, length-take-le, length-drop, drop-cons, add-one}
use Rattle.std.proofs.Math.Seq.{take-add, drop-drop, get_or-take, get_or-drop}
use native.Mathlib.Nat.{add-zero}
use mathlib.Core.Path.{subst⁻¹}
use mathlib.Core.Logic.{◌⊎◌, inl, inr}
use Rattle.std.specs.Prelude.{slice_range}
use Rattle.frames.specs.declared.Settings.{Settings}
use Rattle.runfile.specs.Steps.{body_length, taken}
use Rattle.runfile.specs.declared.Progress.{Progress}
use Rattle.runfile.specs.declared.Progress.TheVariants.{Running, Ended}
use Rattle.runfile.proofs.Bounds.{most_body, body_most}
use Rattle.runfile.proofs.Ends.{left, taken_left}
use Rattle.aosread.specs.Input.{StandFirst}

-- ---- parts of a buffer

pub length-range : (buf : List ℕ) (from to : ℕ) → from ≤ to → to ≤ length buf → length (slice_range buf from to) ≡ to - from
length-range buf from to h k = length-take-le (to - from) (drop from buf) (omega (arith, length-drop from buf))

range_split : (buf : List ℕ) (from to end : ℕ) → from ≤ to → to ≤ end → slice_range buf from end ≡ slice_range buf from to ++ slice_range buf to end
range_split buf from to end h k =
    let both : end - from ≡ to - from + (end - to) = omega arith in
    let there : from + (to - from) ≡ to = omega arith in
    ap (λ (n : ℕ). take n (drop from buf)) both ∙ take-add (to - from) (end - to) (drop from buf)
    ∙ ap (λ (l : List ℕ). take (to - from) (drop from buf) ++ take (end - to) l)
    (drop-drop (to - from) from buf ∙ ap (λ (n : ℕ). drop n buf) there)

-- the first octet, and those behind it
range-cons : (buf : List ℕ) (from end : ℕ) → from < end → end ≤ length buf → slice_range buf from end ≡ get_or buf from 0 ∷ slice_range buf (from + 1) end
range-cons buf from end h k =
    let more : end - from ≡ suc (end - (from + 1)) = omega arith in
    ap (λ (n : ℕ). take n (drop from buf)) more ∙ ap (take (suc (end - (from + 1)))) (drop-cons buf from 0 (omega arith))
    ∙ ap (λ (n : ℕ). get_or buf from 0 ∷ take (end - (from + 1)) (drop n buf)) (sym (add-one from))

pub range_first : (buf : List ℕ) (from to : ℕ) → from < to → get_or (slice_range buf from to) 0 0 ≡ get_or buf from 0
range_first buf from to h =
    get_or-take (to - from) (drop from buf) 0 0 (omega arith) ∙ get_or-drop from buf 0 0 ∙ ap (λ (n : ℕ). get_or buf n 0) (add-zero from)

-- ---- what stands first

-- is no longer than that in which it stands
pub first_most : (u os : List ℕ) → StandFirst u os → length u ≤ length os
first_most u os e = omega (arith, ap length e, length-take (length u) os)

-- what was not yet taken, then one octet more at least, then a record: its kind, its body up to `to`, and what is left
pub record_there : (before mid buf : List ℕ) (from to end kind : ℕ) → StandFirst before mid → StandFirst mid (slice_range buf from end)
    → 0 < length mid → kind ≡ get_or mid 0 0 → from + 1 ≤ to → to ≤ end → end ≤ length buf
    → StandFirst before (kind ∷ (slice_range buf (from + 1) to ++ slice_range buf to end))
record_there before mid buf from to end kind e f some first h k room =
    let all : List ℕ = slice_range buf from end in
    let same : get_or all 0 0 ≡ kind = sym (get_or-take (length mid) all 0 0 some) ∙ ap (λ (l : List ℕ). get_or l 0 0) f ∙ sym first in
    let here : all ≡ kind ∷ (slice_range buf (from + 1) to ++ slice_range buf to end) =
    range-cons buf from end (omega arith) room
    ∙ ap (λ (o : ℕ). o ∷ slice_range buf (from + 1) end) (sym (range_first buf from end (omega arith)) ∙ same)
    ∙ ap (λ (l : List ℕ). kind ∷ l) (range_split buf (from + 1) to end h k) in
    let whole : take (length before) all ≡ before =
    sym (take-take (length before) (length mid) all (first_most before mid e)) ∙ ap (take (length before)) f ∙ e in
    ap (take (length before)) (sym here) ∙ whole

-- ---- how far the run is read

-- no body is longer
pub short_body : (r : Progress) (kind n : ℕ) → n ≡ body_length r kind → n ≤ most_body
short_body r kind n e = rw e (body_most r kind)

underway_left : (r : Progress) → ((s : Settings) × (n : ℕ) × r ≡ Running s n) ⊎ ((n : ℕ) × r ≡ Ended n) → 0 < left r
unfolding left
underway_left r (inl (s, n, e)) = rw e (omega arith)
underway_left r (inr (n, e)) = rw e (omega arith)

-- a record of a run that goes on leaves fewer to take
pub next_less : (r next : Progress) (kind : ℕ) (body : List ℕ) → next ≡ taken r kind body
    → ((s : Settings) × (n : ℕ) × r ≡ Running s n) ⊎ ((n : ℕ) × r ≡ Ended n) → left next < left r
next_less r next kind body here on = subst⁻¹ (λ (n : Progress). left n < left r) here (taken_left r kind body (underway_left r on))

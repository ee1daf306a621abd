-- What a record that passes refusal 10's test says, and which records pass it.
-- Assumes nothing.
use mathlib.Core.Path.{◌≡◌, refl, ap}
use mathlib.Core.Bool.{Bool, true, false}
use Prim.Native.Nat.{ℕ, ◌+◌, ◌^◌, ◌≤◌, ◌<◌}
use native.Mathlib.Nat.{mod-lt}
use native.Mathlib.Omega.{arith}
use lib.Dec.{ltb, eqb}
use lib.Pow.{pow_pos}
use borrow.Author.Tests.{ltb-true, lt-ltb, eqb-true, eqb-false, eq-eqb}
use Rattle.octets.specs.Basics.{pick, and, or}
use Rattle.octets.proofs.Choices.{and_true, pick_lt}
use Rattle.octets.proofs.Tests.{test, and_both}
use Rattle.frames.specs.Link.{count_width, next_count}
use Rattle.frames.specs.Frame.{no_start}
use Rattle.frames.specs.declared.Settings.{Settings}
use Rattle.frames.proofs.Framed.{Used, pointer_inside, pointer_beyond}
use Rattle.frames.proofs.Settled.{Settled}
use Rattle.multiplexer.specs.Multiplex.{mux_reachable, start_now}
use Rattle.multiplexer.specs.declared.Mux.{Mux}

-- ---- the first start

-- none, or below the number of octets in the zone
abbrev pub Inside : ℕ → ℕ → Type 0
Inside start filled = or (eqb start no_start) (ltb start filled) ≡ true

none_inside : (start filled : ℕ) → start ≡ no_start → Inside start filled
none_inside start filled e = ap (λ (b : Bool). or b (ltb start filled)) (eq-eqb start no_start e)

below_inside : (start filled : ℕ) → start < filled → Inside start filled
below_inside start filled h = test (eqb start no_start) (λ t. rw t refl) (λ t. rw (t, lt-ltb start filled h) refl)

-- which of the two it is
pub by_inside {ℓ} : {X : Type ℓ} (start filled : ℕ) → Inside start filled → (start ≡ no_start → X) → (start < filled → X) → X
by_inside {X = X} start filled i none below = go (eqb start no_start) refl i
  where
    go : (b : Bool) → eqb start no_start ≡ b → or b (ltb start filled) ≡ true → X
    go true e i = none (eqb-true start no_start e)
    go false e i = below (ltb-true start filled i)

inside_short : (start filled : ℕ) → filled ≤ no_start → Inside start filled → start ≤ no_start
inside_short start filled h i = by_inside start filled i (λ none. omega arith) (λ below. omega arith)

inside_grows : (start filled more : ℕ) → Inside start filled → filled ≤ more → Inside start more
inside_grows start filled more i h = by_inside start filled i (none_inside start more) (λ below. below_inside start more (omega arith))

-- ---- a record that passes

-- it is on the wheel, and stands between packets or, with an empty zone, within one
pub by_passing {ℓ} : {X : Type ℓ} (s : Settings) (m : Mux) → mux_reachable s m ≡ true
    → (m.count < 2 ^ count_width s.link → m.taken ≡ 0 → m.filled < s.zone → Inside m.first m.filled → X)
    → (m.count < 2 ^ count_width s.link → 0 < m.taken → m.filled ≡ 0 → m.first ≡ no_start → m.taken < s.limit → X) → X
unfolding mux_reachable
by_passing {X = X} s m e between during = go (eqb m.taken 0) refl passes.1
  where
    is_between : Bool
    is_between = and (ltb m.filled s.zone) (or (eqb m.first no_start) (ltb m.first m.filled))

    is_during : Bool
    is_during = and (eqb m.filled 0) (and (eqb m.first no_start) (ltb m.taken s.limit))

    passes : (ltb m.count (2 ^ count_width s.link) ≡ true) × (pick (eqb m.taken 0) is_between is_during ≡ true)
    passes = and_true (ltb m.count (2 ^ count_width s.link)) _ e

    wheel : m.count < 2 ^ count_width s.link
    wheel = ltb-true _ _ passes.0

    go : (b : Bool) → eqb m.taken 0 ≡ b → pick b is_between is_during ≡ true → X
    go true t y =
        let u = and_true (ltb m.filled s.zone) _ y in
        between wheel (eqb-true _ _ t) (ltb-true _ _ u.0) u.1
    go false t y =
        let u = and_true (eqb m.filled 0) _ y in
        let v = and_true (eqb m.first no_start) _ u.1 in
        during wheel (omega (arith, eqb-false m.taken 0 t)) (eqb-true _ _ u.0) (eqb-true _ _ v.0) (ltb-true _ _ v.1)

-- what both have in common
pub record Passing (s : Settings) (m : Mux) : Type 0 where
  pub wheel : m.count < 2 ^ count_width s.link
  pub room : m.filled < s.zone
  pub inside : Inside m.first m.filled

pub passing : (s : Settings) → Settled s → (m : Mux) → mux_reachable s m ≡ true → Passing s m
passing s range m e =
    by_passing s m e (λ wheel none room inside. record { wheel = wheel; room = room; inside = inside })
    (λ wheel some empty none fits. record {
      wheel = wheel;
      room = omega (arith, range.zone_least);
      inside = none_inside m.first m.filled none;
    })

-- the pointer that is written now fits its field
pub start_fits : (s : Settings) → Settled s → (m : Mux) → Passing s m → start_now m < 2 ^ 11
unfolding start_now
start_fits s range m w =
    pick_lt (and (eqb m.taken 0) (eqb m.first no_start)) m.filled m.first (2 ^ 11)
    (omega (arith, w.room, range.zone_most))
    (omega (arith, inside_short m.first m.filled (omega (arith, w.room, range.zone_most)) w.inside))

-- is one that is used
pub start_used : (s : Settings) (m : Mux) → Passing s m → Used s (start_now m)
unfolding start_now
start_used s m w = go (and (eqb m.taken 0) (eqb m.first no_start))
  where
    go : (b : Bool) → Used s (pick b m.filled m.first)
    go true = pointer_inside s m.filled w.room
    go false =
        by_inside m.first m.filled w.inside (λ none. pointer_beyond s m.first (omega arith))
        (λ below. pointer_inside s m.first (omega (arith, w.room)))

-- and lies inside the octets that the zone then has
pub start_inside : (s : Settings) (m : Mux) (n : ℕ) → Passing s m → 0 < n → Inside (start_now m) (m.filled + n)
unfolding start_now
start_inside s m n r h = go (and (eqb m.taken 0) (eqb m.first no_start))
  where
    go : (b : Bool) → Inside (pick b m.filled m.first) (m.filled + n)
    go true = below_inside m.filled (m.filled + n) (omega arith)
    go false = inside_grows m.first m.filled (m.filled + n) r.inside (omega arith)

-- ---- records that pass

-- an empty zone, within a packet or not
pub empty_passes : (s : Settings) → Settled s → (c t : ℕ) → c < 2 ^ count_width s.link → t < s.limit
    → mux_reachable s (record { count = c; filled = 0; first = no_start; taken = t }) ≡ true
unfolding mux_reachable
empty_passes s range c t h k = and_both (lt-ltb c (2 ^ count_width s.link) h) (go (eqb t 0))
  where
    go : (b : Bool) → pick b (and (ltb 0 s.zone) true) (ltb t s.limit) ≡ true
    go true = and_both (lt-ltb 0 s.zone range.zone_least) refl
    go false = lt-ltb t s.limit k

-- a zone that is begun, between packets
pub begun_passes : (s : Settings) (c filled start : ℕ) → c < 2 ^ count_width s.link → filled < s.zone → Inside start filled
    → mux_reachable s (record { count = c; filled = filled; first = start; taken = 0 }) ≡ true
unfolding mux_reachable
begun_passes s c filled start h k i = and_both (lt-ltb c (2 ^ count_width s.link) h) (and_both (lt-ltb filled s.zone k) i)

pub next_on_wheel : (s : Settings) (c : ℕ) → next_count (count_width s.link) c < 2 ^ count_width s.link
unfolding next_count
next_on_wheel s c = mod-lt (c + 1) (pow_pos (count_width s.link))

-- The signalling octet and the count, by the same laws for every edition.
-- Assumes nothing.
use Rattle.std.proofs.Common.{◌≡◌, ℕ, ◌+◌, ◌*◌, ◌/◌, ◌%◌, ◌^◌, ◌<◌, ◌≤◌, Bool, true, false, eqb, sym, refl, ap, ◌∙◌, subst, mod-eq_of_lt, add_comm, arith, lit<, pow-add, shr-shr, eq-eqb, ne_eqb, eqb-true}
use native.Mathlib.Nat.{mod-one}
use lib.Arith.{digits_lt}
use lib.Pow.{mod-pow-add, recompose, high, low}
use borrow.Author.Tests.{eqb-false}
use Rattle.octets.specs.Basics.{and, or}
use Rattle.octets.proofs.Choices.{eqb_iff, and_true}
use Rattle.octets.proofs.Tests.{test, and_both}
use Rattle.words.specs.Fields.{field, read, write}
use Rattle.words.proofs.Fields.{field_lt, placed_lt, placed_within, placed_read, placed_above, placed_below, agree_on}
use Rattle.frames.specs.Edition.{own_width, count_place, replay_place, seven_place, usage_place, spare_place, cycle_place, usage, cycle_width, cycle_at, count_in, used_as, signals, signalling}
use Rattle.frames.specs.declared.Edition.{Edition}
use Rattle.frames.specs.declared.Edition.TheVariants.{Former, CycleUnused, CycleUsed}

-- ---- the bits below the replay flag

-- two tests are a third where they hold with it
both_tests : (a b c d m n : ℕ) → (a ≡ b → c ≡ d → m ≡ n) → (m ≡ n → (a ≡ b) × (c ≡ d)) → and (eqb a b) (eqb c d) ≡ eqb m n
both_tests a b c d m n to from =
    test (eqb a b)
    (λ t. rw t (eqb_iff c d m n (to (eqb-true a b t)) (λ e. (from e).1)))
    (λ t. rw t (sym (ne_eqb m n (λ e. eqb-false a b t (from e).0))))

-- a field is two fields, one above the other
pub two_fields : (word place high low : ℕ) → field word place (high + low) ≡ field word (place + low) high * 2 ^ low + field word place low
unfolding field
two_fields word place high low = mod-pow-add (word / 2 ^ place) high low ∙ rw (shr-shr word place low) refl

-- with usage 0 every field is 0 where all seven bits are
pub unused_as : (head : ℕ) → used_as 0 head ≡ eqb (read seven_place head) 0
unfolding used_as
unused_as head =
    let flags : field head 0 7 ≡ field head 6 1 * 64 + field head 0 6 = two_fields head 0 1 6 in
    let cycle : field head 0 6 ≡ field head 4 2 * 16 + field head 0 4 = two_fields head 0 2 4 in
    ap (and (eqb (read usage_place head) 0))
    (both_tests (read spare_place head) 0 (read cycle_place head) 0 (field head 0 6) 0 (λ s c. omega arith) (λ e. (omega arith, omega arith)))
    ∙ both_tests (read usage_place head) 0 (field head 0 6) 0 (read seven_place head) 0 (λ u c. omega arith) (λ e. (omega arith, omega arith))

-- so 732.0-B-3 with usage 0 asks for what 701.0-B-2 does
pub same_signals : (head : ℕ) → signals CycleUnused head ≡ signals Former head
unfolding signals
same_signals head = unused_as head

-- with usage 1 the three bits above the cycle are 100
pub used_flags : (head : ℕ) → used_as 1 head ≡ eqb (field head 4 3) 4
unfolding used_as
used_flags head =
    let flags : field head 4 3 ≡ field head 6 1 * 4 + field head 4 2 = two_fields head 4 1 2 in
    let usage-flag : field head 6 1 < 2 = field_lt head 6 1 in
    let spares : field head 4 2 < 4 = field_lt head 4 2 in
    ap (and (eqb (read usage_place head) 1)) (alone (eqb (read spare_place head) 0))
    ∙ both_tests (read usage_place head) 1 (read spare_place head) 0 (field head 4 3) 4 (λ e c. omega arith) (λ e. (omega arith, omega arith))
  where
    alone : (b : Bool) → and b true ≡ b
    alone true = refl
    alone false = refl

-- and each edition for what 732.0-B-3 does with its usage
pub signals_used : (e : Edition) (head : ℕ) → signals e head ≡ used_as (usage e) head
unfolding signals usage
signals_used Former head = sym (same_signals head)
signals_used CycleUnused head = refl
signals_used CycleUsed head = refl

-- ---- widths

pub usage_small : (e : Edition) → usage e ≤ 1
unfolding usage
usage_small Former = omega arith
usage_small CycleUnused = omega arith
usage_small CycleUsed = omega arith

pub cycle_narrow : (e : Edition) → cycle_width e ≤ 4
unfolding cycle_width
cycle_narrow e = omega (arith, usage_small e)

pub unused_narrow : (e : Edition) → usage e ≡ 0 → cycle_width e ≡ 0
unfolding cycle_width
unused_narrow e h = omega arith

pub used_wide : (e : Edition) → (usage e ≡ 0 → ⊥) → cycle_width e ≡ 4
unfolding cycle_width
used_wide e h = omega (arith, usage_small e)

-- ---- the count that is read

-- it has its own bits, and the cycle's above them
pub count_in_lt : (e : Edition) (head : ℕ) → count_in e head < 2 ^ (own_width + cycle_width e)
unfolding count_in
count_in_lt e head =
    let both : read (cycle_at e) head * 2 ^ own_width + read count_place head < 2 ^ cycle_width e * 2 ^ own_width =
    digits_lt (field_lt head 0 (cycle_width e)) (field_lt head 8 own_width) in
    subst (λ (m : ℕ). read (cycle_at e) head * 2 ^ own_width + read count_place head < m)
    (sym (pow-add 2 (cycle_width e) own_width) ∙ ap (λ (k : ℕ). 2 ^ k) (add_comm (cycle_width e) own_width)) both

pub count_own : (e : Edition) (head : ℕ) → count_in e head % 2 ^ own_width ≡ read count_place head
unfolding count_in
count_own e head = low (read (cycle_at e) head) own_width (field_lt head 8 own_width)

pub count_cycle : (e : Edition) (head : ℕ) → count_in e head / 2 ^ own_width ≡ read (cycle_at e) head
unfolding count_in
count_cycle e head = high (read (cycle_at e) head) own_width (field_lt head 8 own_width)

-- a count that fits is put together again from its parts
pub count_again : (e : Edition) (c head : ℕ) → c < 2 ^ (own_width + cycle_width e) → read (cycle_at e) head ≡ c / 2 ^ own_width % 2 ^ cycle_width e
    → read count_place head ≡ c % 2 ^ own_width → count_in e head ≡ c
unfolding count_in
count_again e c head fits cycle own =
    rw (cycle, own) (recompose (cycle_width e) own_width (subst (λ (k : ℕ). c < 2 ^ k) (add_comm own_width (cycle_width e)) fits))

-- ---- the signalling octet that is written

module _ (e : Edition) (c r : ℕ) where
  abbrev replayed : ℕ
  replayed = write replay_place r 0

  abbrev used : ℕ
  used = write usage_place (usage e) replayed

  replayed_lt : replayed < 2 ^ 64
  replayed_lt = placed_lt 0 7 1 r (lit< tt) (omega arith)

  used_lt : used < 2 ^ 64
  used_lt = placed_lt replayed 6 1 (usage e) replayed_lt (omega arith)

  pub signalling_lt : signalling e c r < 2 ^ 64
  unfolding signalling
  signalling_lt = placed_lt used 0 (cycle_width e) (c / 2 ^ own_width) used_lt (omega (arith, cycle_narrow e))

  -- it is an octet
  pub signalling_within : signalling e c r < 2 ^ 8
  unfolding signalling
  signalling_within =
      let flag : replayed < 2 ^ 8 = placed_within 0 7 1 r (lit< tt) (omega arith) 8 (lit< tt) (omega arith) in
      let flags : used < 2 ^ 8 = placed_within replayed 6 1 (usage e) replayed_lt (omega arith) 8 flag (omega arith) in
      placed_within used 0 (cycle_width e) (c / 2 ^ own_width) used_lt (omega (arith, cycle_narrow e)) 8 flags (omega (arith, cycle_narrow e))

  above_cycle : (place width : ℕ) → cycle_width e ≤ place → field (signalling e c r) place width ≡ field used place width
  unfolding signalling
  above_cycle place width h =
      placed_above used 0 (cycle_width e) (c / 2 ^ own_width) used_lt (omega (arith, cycle_narrow e)) place width (omega arith)

  below_usage : (place width : ℕ) → place + width ≤ 6 → field used place width ≡ field 0 place width
  below_usage place width h =
      placed_below replayed 6 1 (usage e) replayed_lt (omega arith) place width h
      ∙ placed_below 0 7 1 r (lit< tt) (omega arith) place width (omega arith)

  pub replay_in : read replay_place (signalling e c r) ≡ r % 2 ^ 1
  replay_in =
      above_cycle 7 1 (omega (arith, cycle_narrow e))
      ∙ placed_above replayed 6 1 (usage e) replayed_lt (omega arith) 7 1 (omega arith)
      ∙ placed_read 0 7 1 r (lit< tt) (omega arith)

  pub usage_in : read usage_place (signalling e c r) ≡ usage e
  usage_in =
      above_cycle 6 1 (omega (arith, cycle_narrow e))
      ∙ placed_read replayed 6 1 (usage e) replayed_lt (omega arith)
      ∙ mod-eq_of_lt (omega (arith, usage_small e))

  pub spare_in : read spare_place (signalling e c r) ≡ 0
  unfolding field
  spare_in = above_cycle 4 2 (cycle_narrow e) ∙ below_usage 4 2 (omega arith)

  -- with usage 0 there is no cycle
  pub no_cycle_in : usage e ≡ 0 → read cycle_place (signalling e c r) ≡ 0
  unfolding cycle_width field
  no_cycle_in h = above_cycle 0 4 (omega arith) ∙ below_usage 0 4 (omega arith)

  pub cycle_in : read (cycle_at e) (signalling e c r) ≡ c / 2 ^ own_width % 2 ^ cycle_width e
  unfolding signalling
  cycle_in = placed_read used 0 (cycle_width e) (c / 2 ^ own_width) used_lt (omega (arith, cycle_narrow e))

-- ---- a header's bits, one by one

-- what right signals say of the fields of 732.0-B-3, over the edition
pub record Signalled (e : Edition) (head : ℕ) : Type 0 where
  pub usage_right : read usage_place head ≡ usage e
  pub spare_clear : read spare_place head ≡ 0
  pub cycle_clear : usage e ≡ 0 → read cycle_place head ≡ 0

pub signalled_by : (e : Edition) (head : ℕ) → signals e head ≡ true → Signalled e head
unfolding used_as
signalled_by e head right =
    let a = and_true _ _ (sym (signals_used e head) ∙ right) in
    let b = and_true _ _ a.1 in
    record {
      usage_right = eqb-true _ _ a.0;
      spare_clear = eqb-true _ _ b.0;
      cycle_clear = λ none. eqb-true _ _ (rw none at b.1);
    }

pub signals_by : (e : Edition) (head : ℕ) → Signalled e head → signals e head ≡ true
unfolding used_as
signals_by e head h =
    signals_used e head
    ∙ and_both (eq-eqb _ _ h.usage_right)
    (and_both (eq-eqb _ _ h.spare_clear) (cycled (usage e) (usage_small e) h.cycle_clear))
  where
    cycled : (u : ℕ) → u ≤ 1 → (u ≡ 0 → read cycle_place head ≡ 0) → or (eqb u 1) (eqb (read cycle_place head) 0) ≡ true
    cycled u small clear =
        test (eqb u 1)
        (λ t. rw t refl)
        (λ t. rw t (eq-eqb _ _ (clear (unset (eqb-false u 1 t)))))
      where
        unset : (u ≡ 1 → ⊥) → u ≡ 0
        unset other = omega arith

-- headers with right signals and one cycle have the same bits below the replay flag
pub signals_agree : (e : Edition) (a b : ℕ) → Signalled e a → Signalled e b → read (cycle_at e) a ≡ read (cycle_at e) b → a % 2 ^ 7 ≡ b % 2 ^ 7
signals_agree e a b p q same =
    let none : a % 2 ^ 0 ≡ b % 2 ^ 0 = mod-one a ∙ sym (mod-one b) in
    let cycles : read cycle_place a ≡ read cycle_place b =
    test (eqb (usage e) 0)
    (λ t. let none = eqb-true (usage e) 0 t in p.cycle_clear none ∙ sym (q.cycle_clear none))
    (λ t. subst (λ (k : ℕ). field a 0 k ≡ field b 0 k) (used_wide e (eqb-false (usage e) 0 t)) same) in
    let low : a % 2 ^ 4 ≡ b % 2 ^ 4 = agree_on a b 0 4 none cycles in
    let spares : a % 2 ^ 6 ≡ b % 2 ^ 6 = agree_on a b 4 2 low (p.spare_clear ∙ sym q.spare_clear) in
    agree_on a b 6 1 spares (p.usage_right ∙ sym q.usage_right)

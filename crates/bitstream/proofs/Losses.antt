-- The calls' loss flag is the rule's over the whole run.
-- Assumes nothing.
use mathlib.Core.Logic.{◌↔◌, ◌⊎◌, inl, inr}
use mathlib.Core.Path.{◌≡◌, refl, sym, ap}
use mathlib.Core.List.{List, [], ◌∷◌, ◌++◌}
use mathlib.Core.Bool.{Bool, true, false, not}
use Prim.Native.Nat.{ℕ, ◌<◌}
use native.Mathlib.Omega.{arith}
use lib.Dec.{eqb}
use borrow.Author.Tests.{eq-eqb, ne_eqb, eqb-true, eqb-false, not-true}
use Rattle.octets.specs.Basics.{pick, and, first, All}
use Rattle.octets.proofs.Choices.{and_false, or_true, apart}
use Rattle.octets.proofs.Tests.{test, or_all}
use Rattle.frames.specs.Link.{count_width}
use Rattle.frames.specs.BitFrame.{bit_heading_rows}
use Rattle.frames.specs.declared.bits.BitSettings.{BitSettings}
use Rattle.frames.proofs.Wheel.{none_missing}
use Rattle.bitstream.specs.Bitstream.{reader_reachable, read_rows, untold, loss_flag, next_reader, reading}
use Rattle.bitstream.specs.Loss.{BitUnit, follows, since_bits, any_lost, flag, unit_of, units_with, units_after, frame_said, run_said}
use Rattle.bitstream.specs.Statements.{RunRead, as_said, run_read, reader_for, LostInFill, LossesWait}
use Rattle.bitstream.specs.declared.Reader.{Reader}
use Rattle.bitstream.specs.declared.Reader.TheVariants.{Fresh, Last}
use Rattle.bitstream.proofs.Reached.{reader_kept}

-- a frame behind the units read before it
module _ (s : BitSettings) (us : List BitUnit) (f : List ℕ) where
  abbrev before : Reader
  before = reader_for us

  abbrev unit : BitUnit
  unit = unit_of s us f

  -- what is to be told with it is whether any count since the last unit with bits did not follow
  untold_since : untold s before unit.count ≡ any_lost (unit ∷ since_bits us)
  unfolding untold reader_for any_lost since_bits follows
  untold_since = go us
    where
      go : (vs : List BitUnit) → untold s (reader_for vs) (unit_of s vs f).count ≡ any_lost (unit_of s vs f ∷ since_bits vs)
      go [] = refl
      go (v ∷ vs) = refl

  flag_is : loss_flag s before unit.count unit.bits ≡ flag unit us
  unfolding loss_flag flag
  flag_is = rw untold_since (go (eqb unit.bits 0) (any_lost (unit ∷ since_bits us)))
    where
      go : (t b : Bool) → and b (not t) ≡ pick t false b
      go true b = and_false b
      go false true = refl
      go false false = refl

  next_is : next_reader s before unit.count unit.bits ≡ reader_for (unit ∷ us)
  unfolding next_reader reader_for since_bits any_lost
  next_is = ap (Last unit.count) (rw untold_since (go (eqb unit.bits 0) (any_lost (unit ∷ since_bits us)) refl))
    where
      go : (t b : Bool) → any_lost (unit ∷ since_bits us) ≡ b → and b t ≡ any_lost (pick t (unit ∷ since_bits us) [])
      go true true e = sym e
      go true false e = sym e
      go false b e = and_false b

  -- one call, with a record that calls reach: the frame is refused by its own rows alone
  module _ (passes : reader_reachable s before ≡ true) where
    abbrev refusal : ℕ
    refusal = first (bit_heading_rows s f)

    refused_alone : first (read_rows s before f) ≡ refusal
    unfolding first read_rows bit_heading_rows
    refused_alone = rw passes refl

    one_said : as_said (reading s before f) ≡ frame_said s us f
    unfolding reading frame_said
    one_said = go (eqb refusal 0) refl
      where
        go : (t : Bool) → eqb refusal 0 ≡ t → as_said (reading s before f) ≡ frame_said s us f
        go true e = rw (refused_alone, e, flag_is) refl
        go false e = rw (refused_alone, e) refl

    one_left : (reading s before f).reader ≡ reader_for (units_with s us f)
    unfolding reading units_with
    one_left = go (eqb refusal 0) refl
      where
        go : (t : Bool) → eqb refusal 0 ≡ t → (reading s before f).reader ≡ reader_for (units_with s us f)
        go true e = rw (refused_alone, e) next_is
        go false e = rw (refused_alone, e) refl

-- a run, from the record that stands for any units
all_said : (s : BitSettings) (us : List BitUnit) (fs : List (List ℕ)) → reader_reachable s (reader_for us) ≡ true
    → run_read s (reader_for us) fs ≡ record { said = run_said s us fs; reader = reader_for (units_after s us fs) }
unfolding run_read run_said units_after
all_said s us [] passes = refl
all_said s us (f ∷ fs) passes =
    let kept : reader_reachable s (reader_for (units_with s us f)) ≡ true = rw (one_left s us f passes) at (reader_kept s (reader_for us) f passes) in
    rw (one_said s us f passes, one_left s us f passes, all_said s (units_with s us f) fs kept) refl

-- ---- what the rule comes to

untold_alike : (s t : BitSettings) (x : Reader) (c : ℕ) → count_width s.link ≡ count_width t.link → untold s x c ≡ untold t x c
unfolding untold
untold_alike s t Fresh c e = refl
untold_alike s t (Last last waiting) c e = rw e

-- in fill, with more of it before: the loss is this unit's or an older one's
found : (u : BitUnit) (us : List BitUnit) → u.bits ≡ 0 → (any_lost (since_bits us) ≡ true → LostInFill us)
    → (u.followed ≡ false) ⊎ (any_lost (since_bits us) ≡ true) → LostInFill (u ∷ us)
found u us none older (inl e) = record { behind = []; unit = u; older = us; place = refl; alone = (none, tt); lost = e }
found u us none older (inr e) =
    let l : LostInFill us = older e in
    record {
      behind = u ∷ l.behind;
      unit = l.unit;
      older = l.older;
      place = ap (λ (vs : List BitUnit). u ∷ vs) l.place;
      alone = (l.alone.0, (none, l.alone.1));
      lost = l.lost;
    }

-- a count that did not follow, or one of the others
one_lost : (u : BitUnit) (us : List BitUnit) → any_lost (u ∷ us) ≡ true → (u.followed ≡ false) ⊎ (any_lost us ≡ true)
unfolding any_lost
one_lost u us e = go (or_true (not u.followed) (any_lost us) e)
  where
    go : (not u.followed ≡ true) ⊎ (any_lost us ≡ true) → (u.followed ≡ false) ⊎ (any_lost us ≡ true)
    go (inl h) = inl (not-true u.followed h)
    go (inr h) = inr h

-- a loss among the units since the last bits has its place there
lost_in_fill : (us : List BitUnit) → any_lost (since_bits us) ≡ true → LostInFill us
unfolding since_bits any_lost
lost_in_fill [] e = apart (cc e)
lost_in_fill (u ∷ us) e =
    test (eqb u.bits 0)
    (λ t. found u us (eqb-true u.bits 0 t) (lost_in_fill us) (one_lost u (since_bits us) (rw t at e)))
    (λ t. apart (cc (rw t at e)))

-- and one that has its place there is among them
fill_lost : (behind : List BitUnit) (u : BitUnit) (older : List BitUnit) → All (λ (w : BitUnit). w.bits ≡ 0) (u ∷ behind) → u.followed ≡ false
    → any_lost (since_bits (behind ++ (u ∷ older))) ≡ true
unfolding since_bits any_lost
fill_lost [] u older alone e = rw (eq-eqb u.bits 0 alone.0, e) refl
fill_lost (w ∷ behind) u older alone e =
    rw (eq-eqb w.bits 0 alone.1.0, fill_lost behind u older (alone.0, alone.1.1) e) (or_all (not w.followed))

-- both ways, for a unit with bits
set_by : (u : BitUnit) (us : List BitUnit) → (u.followed ≡ false) ⊎ LostInFill us → any_lost (u ∷ since_bits us) ≡ true
unfolding any_lost
set_by u us (inl e) = rw e refl
set_by u us (inr l) = rw (l.place, fill_lost l.behind l.unit l.older l.alone l.lost) (or_all (not u.followed))

set_exactly : (u : BitUnit) (us : List BitUnit) → (flag u us ≡ true) ↔ ((0 < u.bits) × ((u.followed ≡ false) ⊎ LostInFill us))
unfolding flag
set_exactly u us = (
  (λ e.
      test (eqb u.bits 0)
      (λ t. apart (cc (rw t at e)))
      (λ t. (omega (arith, eqb-false u.bits 0 t), told (one_lost u (since_bits us) (rw t at e))))),
  (λ h. rw (ne_eqb u.bits 0 (omega arith)) (set_by u us h.1)),
)
  where
    told : (u.followed ≡ false) ⊎ (any_lost (since_bits us) ≡ true) → (u.followed ≡ false) ⊎ LostInFill us
    told (inl h) = inl h
    told (inr h) = inr (lost_in_fill us h)

-- THE FLAG WAITS FOR BITS
pub losses_wait : LossesWait
unfolding reader_for reader_reachable follows loss_flag next_reader
losses_wait = record {
  said = λ s fs. ap (λ (r : RunRead). r.said) (all_said s [] fs refl);
  left = λ s fs. ap (λ (r : RunRead). r.reader) (all_said s [] fs refl);
  alike = λ s t x c n e. (rw (untold_alike s t x c e), rw (untold_alike s t x c e));
  exactly = set_exactly;
  wheel = λ width c u us small.
      let same = none_missing width u.count c small in
      ((λ e. same.1 (eqb-true c _ e)), (λ e. eq-eqb c _ (same.0 e)));
}

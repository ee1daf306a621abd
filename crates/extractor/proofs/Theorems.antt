-- The statements about the extractor's calls, proved.
-- Assumes nothing.
use mathlib.Core.Path.{◌≡◌, refl, ap}
use mathlib.Core.List.{List}
use mathlib.Core.Bool.{true, false}
use Prim.Native.Nat.{ℕ}
use native.Mathlib.Omega.{arith}
use lib.ListN.{length, drop}
use lib.Dec.{eqb}
use borrow.Author.Tests.{eqb-true}
use Rattle.octets.specs.Basics.{and, first, number_from, number, part}
use Rattle.words.specs.Fields.{field}
use Rattle.octets.proofs.Choices.{apart}
use Rattle.octets.proofs.Tests.{test}
use Rattle.packets.specs.Packet.{look, encapsulation, header_length, counted, sized}
use Rattle.frames.specs.Frame.{in_range}
use Rattle.frames.specs.Edition.{usage, cycle_width}
use Rattle.frames.specs.Link.{link_in_range, count_width}
use Rattle.frames.specs.declared.Settings.{Settings}
use Rattle.extractor.specs.Records.{unfinished, holds_well, reachable, step_rows, step, step_call}
use Rattle.extractor.specs.Reach.{room_to_state, encapsulation_goes_on, can_go_on, held_goes_on}
use Rattle.extractor.specs.Calls.{goes_on, spend_answer}
use Rattle.extractor.specs.Statements.{SaysTheRules, SaysThemOn, SpendsInTime, KeepsToTheTest, ReachesAll, Exceptions, Determined, tight, seven_held}
use Rattle.extractor.specs.declared.Extractor.{Extractor}
use Rattle.extractor.specs.declared.Extractor.TheVariants.{Walking}
use Rattle.extractor.proofs.Determined.{enter_determined, step_determined, spend_determined}
use Rattle.extractor.proofs.GoingOn.{reached_by_test}
use Rattle.extractor.proofs.InTime.{entered_in_time}
use Rattle.extractor.proofs.Listens.{listen_hears, fresh_hears}
use Rattle.extractor.proofs.Reaches.{enter_next, step_next, reached_exactly}
use Rattle.extractor.proofs.Settles.{Keeps, enter_reachable, step_keeps, spent_in_time}
use Rattle.extractor.proofs.Spends.{refused_stays}
use Rattle.extractor.proofs.Unrefused.{arrives, moves}

pub says_the_rules : SaysTheRules
says_the_rules s store fs (ok, room) = (fresh_hears s store fs ok room).says

pub says_them_on : SaysThemOn
says_them_on s x store fs (ok, room) reach between = (listen_hears s x store fs ok room reach between).says

pub spends_in_time : SpendsInTime
spends_in_time s x store f gs e right many =
    let a = arrives s x store f e in
    let r = enter_reachable s f store x a.ranged a.accepts a.reached a.between in
    rw (enter_next s x store f e) (entered_in_time s a.ranged gs _ store right a.room r.0 r.1 many)

-- what a step leaves of the store: as it was where it is refused
store_kept : {A : Type 0} (s : Settings) (x : Extractor) (store f : List ℕ) (of : List ℕ → A)
    → (first (step_rows s x store f) ≡ 0 → of (step_call s x store f).store ≡ of store) → of (step_call s x store f).store ≡ of store
unfolding step_call
store_kept s x store f of h =
    test (eqb (first (step_rows s x store f)) 0) (λ t. h (eqb-true (first (step_rows s x store f)) 0 t)) (λ t. rw t refl)

unrefused_keeps : (s : Settings) (x : Extractor) (store f : List ℕ) → first (step_rows s x store f) ≡ 0
    → Keeps s store (goes_on (step s f store x).found) (step_call s x store f).next (step_call s x store f).store
unrefused_keeps s x store f e =
    let m = moves s x store f e in
    rw (step_next s x store f e) (step_keeps s f store x m.ranged m.framed m.room m.reached m.underway)

-- and what all the steps of a frame leave of it
spent_kept : {A : Type 0} (s : Settings) (x : Extractor) (store f : List ℕ) (of : List ℕ → A)
    → (first (step_rows s x store f) ≡ 0 → of (spend_answer s x store f).store ≡ of store) → of (spend_answer s x store f).store ≡ of store
unfolding spend_answer
spent_kept s x store f of h =
    test (eqb (first (step_rows s x store f)) 0) (λ t. h (eqb-true (first (step_rows s x store f)) 0 t)) (λ t. ap of (refused_stays s f x store t).1)

unrefused_spends : (s : Settings) (x : Extractor) (store f : List ℕ) → first (step_rows s x store f) ≡ 0
    → Keeps s store false (spend_answer s x store f).next (spend_answer s x store f).store
unfolding spend_answer
unrefused_spends s x store f e =
    let m = moves s x store f e in
    (spent_in_time s f store x m.ranged m.framed m.room m.reached m.underway).0

pub keeps_to_the_test : KeepsToTheTest
keeps_to_the_test = record {
  entering = λ s x store f e.
      let a = arrives s x store f e in
      rw (enter_next s x store f e) (enter_reachable s f store x a.ranged a.accepts a.reached a.between).0;
  stepping = λ s x store f e. (unrefused_keeps s x store f e).reach;
  length_kept = λ s x store f. store_kept s x store f length (λ e. (unrefused_keeps s x store f e).same_room);
  far_kept = λ s x store f. store_kept s x store f (drop s.limit) (λ e. (unrefused_keeps s x store f e).beyond);
  spending = λ s x store f e. (unrefused_spends s x store f e).reach;
  length_spent = λ s x store f. spent_kept s x store f length (λ e. (unrefused_spends s x store f e).same_room);
  far_spent = λ s x store f. spent_kept s x store f (drop s.limit) (λ e. (unrefused_spends s x store f e).beyond);
}

pub reaches_all : ReachesAll
reaches_all s x store (ok, room) small = reached_exactly s x store ok room small

pub exceptions : Exceptions
unfolding number_from number field part look encapsulation header_length counted sized in_range link_in_range usage cycle_width count_width unfinished holds_well reachable room_to_state encapsulation_goes_on can_go_on held_goes_on
exceptions = record {
  by_test = λ s x store fit small. reached_by_test s x store fit.0 fit.1 small;
  passes = refl;
  not_reached = λ r.
      let e : and true false ≡ true = (reached_by_test tight (Walking 0 7 0) seven_held refl (omega arith) (omega arith, (omega arith, (omega arith, (omega arith, (omega arith, (omega arith, (omega arith, tt)))))))).0 r in
      apart (cc);
}

pub determined : Determined
determined = record { entering = enter_determined; stepping = step_determined; spending = spend_determined }

-- The steps of a frame one by one: one that goes on leaves the rest to those after it.
-- Assumes nothing.
use mathlib.Core.Path.{◌≡◌, refl, sym, ap, ◌∙◌, subst}
use mathlib.Core.List.{List, [], ◌∷◌}
use mathlib.Core.Bool.{true, false}
use Prim.Native.Nat.{ℕ, zero, suc, ◌-◌, ◌≤◌, ◌<◌}
use native.Mathlib.Omega.{arith}
use lib.Dec.{eqb}
use borrow.Author.Tests.{ne_eqb, eqb-true}
use Rattle.octets.specs.Basics.{pick, first}
use Rattle.octets.proofs.Choices.{apart}
use Rattle.octets.proofs.Tests.{test}
use Rattle.frames.specs.declared.Settings.{Settings}
use Rattle.extractor.specs.Records.{step_rows, Stepped, step, step_call}
use Rattle.extractor.specs.Answers.{move_says}
use Rattle.extractor.specs.Calls.{Finds, one_more, none_left, goes_on, steps, through, spends_to, spend_answer, SpentLast}
use Rattle.extractor.specs.declared.Extractor.{Extractor}
use Rattle.extractor.specs.declared.Extractor.TheVariants.{Fresh, Astray, InStep, Walking, Leaving}
use Rattle.extractor.specs.Found.{Found, Spent}
use Rattle.extractor.specs.declared.Move.{Move}
use Rattle.extractor.proofs.Settles.{Keeps, packed_goes_on, step_keeps, step_unrefused, spent_in_time}
use Rattle.extractor.proofs.Turns.{Turn, leave, keep, break, give, turn}
use Rattle.extractor.proofs.Unrefused.{moves}

spent_later : (a : Found) (found : List Found) → SpentLast (a ∷ found) → goes_on a ≡ true → SpentLast found
spent_later a found ([], e, all-before) on =
    let here : a ≡ Spent = cc in
    let off : false ≡ true = sym (ap goes_on here) ∙ on in apart (cc)
spent_later a found (b ∷ before, e, all-before) on = (before, cc, all-before.1)

module _ (s : Settings) (f : List ℕ) where
  module _ (x : Extractor) (store : List ℕ) (k : ℕ) {w : Stepped} (here : step_call s x store f ≡ w) where
    steps_on : goes_on w.found ≡ true → steps s f (suc k) x store ≡ one_more f w (steps s f k w.next w.store)
    unfolding steps
    steps_on on = rw (here, on) refl

    steps_end : goes_on w.found ≡ false → steps s f (suc k) x store ≡ one_more f w (none_left w.next w.store)
    unfolding steps
    steps_end off = rw (here, off) refl

  no_steps : (x : Extractor) (store : List ℕ) → SpentLast (steps s f 0 x store).found → ⊥
  unfolding steps
  no_steps x store ([], e, all-before) = apart (cc)
  no_steps x store (a ∷ before, e, all-before) = apart (cc)

  -- a frame that is spent takes no more steps
  spent_already : (k : ℕ) (x : Extractor) (store : List ℕ) → SpentLast (steps s f k x store).found → steps s f (suc k) x store ≡ steps s f k x store
  spent_already zero x store spent = absurd (no_steps x store spent)
  spent_already (suc k) x store spent =
      let w : Stepped = step_call s x store f in
      test (goes_on w.found)
      (λ on. steps_on x store (suc k) refl on
      ∙ ap (one_more f w) (spent_already k w.next w.store (spent_later w.found _ (rw (steps_on x store k refl on) at spent) on))
      ∙ sym (steps_on x store k refl on))
      (λ off. steps_end x store (suc k) refl off ∙ sym (steps_end x store k refl off))

  -- a step that is refused is the only one, and leaves all as it was
  pub refused_stays : (x : Extractor) (store : List ℕ) → eqb (first (step_rows s x store f)) 0 ≡ false
      → ((through s f x store).next ≡ x) × ((through s f x store).store ≡ store)
  unfolding steps step_call
  refused_stays x store some = rw some (refl, refl)

  -- what spending comes to, by the rows
  pub spends_by_rows : (x : Extractor) (store : List ℕ)
      → let t : Finds = through s f x store in
      spend_answer s x store f
      ≡ pick (eqb (first (step_rows s x store f)) 0) (spends_to 0 t.next t.store) (spends_to (first (step_rows s x store f)) x store)
  unfolding spend_answer
  spends_by_rows x store =
      test (eqb (first (step_rows s x store f)) 0)
      (λ t. rw (t, eqb-true (first (step_rows s x store f)) 0 t) refl)
      (λ t. let (same, same_Store) = refused_stays x store t in rw (t, same, same_Store) refl)

  -- what is said of one that is refused
  pub spend_refused : (x : Extractor) (store : List ℕ) {n : ℕ} → n ≡ first (step_rows s x store f) → (n ≡ 0 → ⊥) → spends_to n x store ≡ spend_answer s x store f
  spend_refused x store e some = rw (spends_by_rows x store, ← e, ne_eqb _ _ some) refl

  -- a step that is not refused
  module _ (x : Extractor) (store : List ℕ) (e : first (step_rows s x store f) ≡ 0) {w : Stepped} (is : step s f store x ≡ w) where
    call : step_call s x store f ≡ w
    unfolding step_call
    call = rw e is

    -- one that goes on is followed by one that is not refused
    followed : goes_on w.found ≡ true → first (step_rows s w.next w.store f) ≡ 0
    followed on =
        let m = moves s x store f e in
        let k : Keeps s store (goes_on w.found) w.next w.store =
        subst (λ (v : Stepped). Keeps s store (goes_on v.found) v.next v.store) is
        (step_keeps s f store x m.ranged m.framed m.room m.reached m.underway) in
        step_unrefused s w.next w.store f m.ranged (omega (arith, m.room, k.same_room)) k.reach (k.stage ∙ on) m.framed

    through_on : goes_on w.found ≡ true → through s f x store ≡ one_more f w (through s f w.next w.store)
    through_on on =
        let m = moves s x store f e in
        let spent : SpentLast (through s f x store).found = (spent_in_time s f store x m.ranged m.framed m.room m.reached m.underway).1 in
        let u = steps_on x store s.zone call on in
        let later : SpentLast (steps s f s.zone w.next w.store).found = spent_later w.found _ (rw u at spent) on in
        u ∙ ap (one_more f w) (sym (spent_already s.zone w.next w.store later))

    -- one that does not is the last
    through_last : goes_on w.found ≡ false → through s f x store ≡ one_more f w (none_left w.next w.store)
    through_last off = steps_end x store s.zone call off

  -- ---- the steps of a walk

  -- a walk with nothing held, whose steps leave this record and this store
  pub record Onward (next : Extractor) (left : List ℕ) (c h n : ℕ) (st : List ℕ) : Type 0 where
    pub none_held : h ≡ 0
    pub unrefused : first (step_rows s (Walking c h n) st f) ≡ 0
    pub same_next : (through s f (Walking c h n) st).next ≡ next
    pub same_store : (through s f (Walking c h n) st).store ≡ left
    pub inside : n ≤ s.zone

  -- what is left to do of a record, for the same: the steps of such a walk, or nothing
  abbrev pub Rest : Extractor → List ℕ → Extractor → List ℕ → Type 0
  Rest next left Fresh st = (Fresh ≡ next) × (st ≡ left)
  Rest next left (Astray c) st = (Astray c ≡ next) × (st ≡ left)
  Rest next left (InStep c h) st = (InStep c h ≡ next) × (st ≡ left)
  Rest next left (Walking c h n) st = Onward next left c h n st
  Rest next left (Leaving c) st = (Astray c ≡ next) × (st ≡ left)

  -- how many more turns a walk may take
  abbrev pub turns : Extractor → ℕ
  turns Fresh = 0
  turns (Astray c) = 0
  turns (InStep c h) = 0
  turns (Walking c h n) = suc s.zone - n
  turns (Leaving c) = 0

  -- out of step nothing is left
  leaving : (last : ℕ) (store : List ℕ) → first (step_rows s (Leaving last) store f) ≡ 0
      → through s f (Leaving last) store ≡ one_more f (step s f store (Leaving last)) (none_left (Astray last) store)
  unfolding step
  leaving last store e = through_last (Leaving last) store e refl refl

  -- all that the steps from a record on leave
  abbrev Left : Extractor → List ℕ → Extractor → List ℕ → Type 0
  Left x store next st = Rest (through s f x store).next (through s f x store).store next st

  by_turn : {x : Extractor} {store : List ℕ} {w : Stepped} → first (step_rows s x store f) ≡ 0 → step s f store x ≡ w → Turn s f store x w
      → Left x store w.next w.store
  by_turn {store = store} e is (leave {last}) =
      let u = leaving last store e in
      (sym (ap (λ (t : Finds). t.next) u), sym (ap (λ (t : Finds). t.store) u))
  by_turn {store = store} e is (keep {last} {h} {at} begun fits) =
      let u = through_last (Walking last h at) store e is refl in
      (sym (ap (λ (t : Finds). t.next) u), sym (ap (λ (t : Finds). t.store) u))
  by_turn {store = store} e is (break {last} {h} {at} damaged before) =
      let u = through_on (Walking last h at) store e is refl in
      let v = leaving last store (followed (Walking last h at) store e is refl) in
      (sym (ap (λ (t : Finds). t.next) u ∙ ap (λ (t : Finds). t.next) v), sym (ap (λ (t : Finds). t.store) u ∙ ap (λ (t : Finds). t.store) v))
  by_turn {store = store} e is (give {last} {h} {at} packed seen fits shows rest low high same far) =
      let on = packed_goes_on packed in
      let u = through_on (Walking last h at) store e is on in
      record {
        none_held = refl;
        unrefused = followed (Walking last h at) store e is on;
        same_next = sym (ap (λ (t : Finds). t.next) u);
        same_store = sym (ap (λ (t : Finds). t.store) u);
        inside = high;
      }

  -- the outcome of a step
  pub rest_after : (x : Extractor) (store : List ℕ) (r : Move) (st : List ℕ) → first (step_rows s x store f) ≡ 0
      → move_says r st ≡ step s f store x → Left x store r.next st
  rest_after x store r st e told =
      let m = moves s x store f e in
      subst (λ (w : Stepped). Left x store w.next w.store) (sym told)
      (by_turn e refl (turn s f store m.ranged m.framed m.room x m.reached m.underway))

  -- a walk goes on further in the zone, or ends
  further : {last h at : ℕ} {store : List ℕ} {w : Stepped} → at ≤ s.zone → Turn s f store (Walking last h at) w → turns w.next < suc s.zone - at
  further low (keep begun fits) = omega arith
  further low (break damaged before) = omega arith
  further low (give packed seen fits shows rest more high same far) = omega arith

  pub fewer_turns : (last h at : ℕ) (store : List ℕ) (r : Move) (st : List ℕ) → at ≤ s.zone → first (step_rows s (Walking last h at) store f) ≡ 0
      → move_says r st ≡ step s f store (Walking last h at) → turns r.next < suc s.zone - at
  fewer_turns last h at store r st low e told =
      let m = moves s (Walking last h at) store f e in
      subst (λ (w : Stepped). turns w.next < suc s.zone - at) (sym told)
      (further low (turn s f store m.ranged m.framed m.room (Walking last h at) m.reached m.underway))

  -- the outcome of a step of a walk with nothing held
  pub rest_on : {next : Extractor} {left : List ℕ} {c h n : ℕ} {st : List ℕ} → Onward next left c h n st → (r : Move) (st' : List ℕ)
      → move_says r st' ≡ step s f st (Walking c 0 n) → Rest next left r.next st' × (turns r.next < suc s.zone - n)
  rest_on {next} {left} {c} {h} {n} {st} o r st' told =
      let unrefused : first (step_rows s (Walking c 0 n) st f) ≡ 0 = rw o.none_held at o.unrefused in
      let same_next : (through s f (Walking c 0 n) st).next ≡ next = rw o.none_held at o.same_next in
      let same_store : (through s f (Walking c 0 n) st).store ≡ left = rw o.none_held at o.same_store in
      let rest = rest_after (Walking c 0 n) st r st' unrefused told in (
        subst (λ (m : Extractor). Rest m left r.next st') same_next
            (subst (λ (l : List ℕ). Rest (through s f (Walking c 0 n) st).next l r.next st') same_store rest),
        fewer_turns c 0 n st r st' o.inside unrefused told,
      )

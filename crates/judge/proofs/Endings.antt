-- How the walk of a frame with no fault before its first step ends: in step where nothing is torn, and else out of step.
-- Assumes nothing.
use mathlib.Core.Path.{◌≡◌, refl, sym, ap, ◌∙◌, subst}
use mathlib.Core.List.{List, ◌∷◌, ◌++◌}
use mathlib.Core.Option.{none, some}
use mathlib.Core.Bool.{true, false}
use Prim.Native.Nat.{ℕ, zero, suc}
use lib.ListN.{length, take, drop}
use lib.Dec.{leb, eqb}
use Rattle.octets.proofs.Choices.{apart}
use Rattle.octets.proofs.Tests.{test}
use Rattle.packets.specs.Packet.{Look, more, damaged, whole, look, is_idle}
use Rattle.frames.specs.Frame.{idle_zone, zone_of, pointer, count}
use Rattle.frames.specs.declared.Settings.{Settings}
use Rattle.extractor.specs.Extract.{State, Step, astray, in_step, Event, event_of, any_torn, Walked, ends, walk_look, walk_turns, walk, walked}
use Rattle.extractor.specs.Records.{is_entered, held_in, stands_for, enter}
use Rattle.extractor.specs.Calls.{Finds, through}
use Rattle.extractor.specs.declared.Extractor.{Extractor}
use Rattle.extractor.specs.declared.Extractor.TheVariants.{Fresh, Astray, InStep, Walking, Leaving}
use Rattle.extractor.proofs.Settles.{steps_are_events}
use Rattle.extractor.proofs.Walked.{event_whole}
use Rattle.judge.specs.Judge.{faulty_entry}
use Rattle.judge.specs.Calls.{judging, stepped_through}
use Rattle.judge.specs.Trials.{Tries, goes_on_from}
use Rattle.judge.proofs.Faults.{entered, entered_events, entered_state}

data Ending : Walked → Type 0 where
  whole_yet : {es : List Event} {os : List ℕ} → any_torn es ≡ false → Ending (ends es (in_step os))
  broken : {es : List Event} → any_torn es ≡ true → Ending (ends es astray)

packet_ending : (p : List ℕ) {w : Walked} → Ending w → Ending (ends (event_of p ∷ w.events) w.leaves)
packet_ending p (whole_yet {es} e) = whole_yet (event_whole (is_idle p) p es ∙ e)
packet_ending p (broken {es} e) = broken (event_whole (is_idle p) p es ∙ e)

walk_ending : (n limit : ℕ) (os : List ℕ) → Ending (walk_turns n limit os)
unfolding walk_turns walk_look
walk_ending zero limit os = whole_yet refl
walk_ending (suc n) limit os = go (λ rest. walk_ending n limit rest) (look limit os)
  where
    go : ((rest : List ℕ) → Ending (walk_turns n limit rest)) → (r : Look) → Ending (walk_look (λ rest. walk_turns n limit rest) os r)
    go later more = whole_yet refl
    go later (damaged d) = broken refl
    go later (whole l) =
        test (leb l (length os))
        (λ t. rw t (packet_ending (take l os) (later (drop l os))))
        (λ t. rw t (whole_yet refl))

walked_ending : (s : Settings) (held f : List ℕ) → Ending (walked s (in_step held) f)
unfolding walked walk
walked_ending s held f =
    test (eqb (pointer s f) idle_zone)
    (λ t. rw t (whole_yet refl))
    (λ t. rw t (walk_ending (length (held ++ zone_of s f)) s.limit (held ++ zone_of s f)))

-- ---- the record that it leaves

-- a record between frames that stands for being in step, or out of step
pub between_in_step : (c : ℕ) (os store : List ℕ) (x : Extractor) → is_entered x ≡ false
    → stands_for store x ≡ record { last = some c; step = in_step os } → x ≡ InStep c (held_in x)
unfolding is_entered stands_for
between_in_step c os store Fresh between e = let last : none ≡ some c = ap (λ (st : State). st.last) e in apart (cc)
between_in_step c os store (Astray last) between e = let out : astray ≡ in_step os = ap (λ (st : State). st.step) e in apart (cc)
between_in_step c os store (InStep last h) between e = let its-last : some last ≡ some c = ap (λ (st : State). st.last) e in cc
between_in_step c os store (Walking last h at) between e = apart (cc)
between_in_step c os store (Leaving last) between e = apart (cc)

between_astray : (c : ℕ) (store : List ℕ) (x : Extractor) → is_entered x ≡ false
    → stands_for store x ≡ record { last = some c; step = astray } → x ≡ Astray c
unfolding is_entered stands_for
between_astray c store Fresh between e = let last : none ≡ some c = ap (λ (st : State). st.last) e in apart (cc)
between_astray c store (Astray last) between e = let its-last : some last ≡ some c = ap (λ (st : State). st.last) e in cc
between_astray c store (InStep last h) between e = let inside : in_step (take h store) ≡ astray = ap (λ (st : State). st.step) e in apart (cc)
between_astray c store (Walking last h at) between e = apart (cc)
between_astray c store (Leaving last) between e = apart (cc)

-- the judge that goes on from it
ended : (n c : ℕ) (t : Finds) {w : Walked} → Ending w → t.events ≡ w.events → is_entered t.next ≡ false
    → stands_for t.store t.next ≡ record { last = some c; step = w.leaves }
    → judging (goes_on_from n t.next) t.store ≡ stepped_through n c t
unfolding stepped_through goes_on_from
ended n c t (whole_yet {os = os} e) said between left =
    let unhurt : any_torn t.events ≡ false = ap any_torn said ∙ e in
    rw unhurt (ap (λ (y : Extractor). judging (goes_on_from n y) t.store) (between_in_step c os t.store t.next between left))
ended n c t (broken e) said between left =
    let hurt : any_torn t.events ≡ true = ap any_torn said ∙ e in
    rw hurt (ap (λ (y : Extractor). judging (goes_on_from n y) t.store) (between_astray c t.store t.next between left))

module _ {s : Settings} {n : ℕ} {x : Extractor} {store : List ℕ} (t : Tries s n x store) (f : List ℕ) where
  abbrev before : State
  before = stands_for store x

  pub not_entered : is_entered x ≡ false
  unfolding is_entered
  not_entered = rw t.between refl

  its_step : before.step ≡ in_step (take t.held store)
  unfolding stands_for
  its_step = rw t.between refl

  pub trial_ended : faulty_entry s before f ≡ false
      → judging (goes_on_from n (through s f (enter s before f) store).next) (through s f (enter s before f) store).store
      ≡ stepped_through n (count s f) (through s f (enter s before f) store)
  trial_ended well =
      let h = entered s before f well in
      let r = steps_are_events s f store x t.ranged h.accepted t.room t.reached not_entered in
      ended n (count s f) (through s f (enter s before f) store) (subst (λ (y : Step). Ending (walked s y f)) (sym its_step) (walked_ending s (take t.held store) f))
      (r.says ∙ entered_events h) r.keeps.stage (r.leaves ∙ entered_state h)

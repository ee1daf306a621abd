-- A run that carries packets passes, and they are what is heard of it.
-- Assumes nothing.
use mathlib.Core.Path.{◌≡◌, refl, sym, ap, ap₂, ◌∙◌}
use mathlib.Core.Logic.{◌⊎◌, inl, inr}
use mathlib.Core.List.{List, [], ◌∷◌, ◌++◌, append_assoc}
use mathlib.Core.Option.{Option, some}
use mathlib.Core.Bool.{Bool, true, false}
use Prim.Native.Nat.{ℕ, ◌+◌, ◌<◌}
use native.Mathlib.Nat.{le_refl}
use native.Mathlib.Omega.{arith}
use lib.ListN.{length, take, drop, length-append, take-append-drop}
use lib.Seq.{drop-append_seam}
use lib.Dec.{eqb}
use borrow.Author.Tests.{eqb-true, eqb-false, eq-eqb}
use Rattle.octets.specs.Basics.{first, All}
use Rattle.octets.proofs.Tests.{test}
use Rattle.packets.specs.Packet.{WellFormed, is_idle, end_to_end}
use Rattle.frames.specs.Frame.{idle_zone, no_start, zone_of, count, pointer, frame_rows}
use Rattle.frames.specs.declared.Settings.{Settings}
use Rattle.frames.proofs.Accepted.{length_zone}
use Rattle.frames.proofs.Framed.{Used, pointer_inside, pointer_beyond}
use Rattle.frames.proofs.Settled.{Settled}
use Rattle.extractor.specs.Extract.{State, in_step, as_event, event_of, marked, ends, walk, agreed, reason_in, walked, told, heard}
use Rattle.extractor.proofs.Listens.{heard_first}
use Rattle.extractor.proofs.Walked.{BeginsFirst, any_torn_marked, Cut, walk_cut}
use Rattle.judge.specs.Judge.{pass, close, judged}
use Rattle.judge.proofs.Faults.{Passes, entered_events, entered_state}
use Rattle.judge.proofs.Verdicts.{walked_idle, walked_data, in_step_with, walked_to, judged_step}
use Rattle.carries.specs.Carries.{starts, first_start, Between, LaidFrom, Bears}
use Rattle.carries.proofs.Bearing.{bears_rows, bears_length, Counted, count_fits, Follows, lost_next, some_limit}
use Rattle.carries.proofs.Laid.{first_start_range, between_begun, idle_laid, data_laid, laid_shift, agreed_start, start_agrees, idle_agrees}

-- ---- packets as events

marked_append : (ps qs : List (List ℕ)) → marked (ps ++ qs) ≡ marked ps ++ marked qs
marked_append [] qs = refl
marked_append (p ∷ ps) qs = ap (λ r. event_of p ∷ r) (marked_append ps qs)

-- the mark tells the packet
event_same : (b c : Bool) (p q : List ℕ) → as_event b p ≡ as_event c q → p ≡ q
event_same true true p q e = cc
event_same true false p q e = cc
event_same false true p q e = cc
event_same false false p q e = cc

pub marked_same : (ps qs : List (List ℕ)) → marked ps ≡ marked qs → ps ≡ qs
marked_same [] [] e = refl
marked_same [] (q ∷ qs) e = cc
marked_same (p ∷ ps) [] e = cc
marked_same (p ∷ ps) (q ∷ qs) e =
    let h : event_of p ≡ event_of q = cc in
    let t : marked ps ≡ marked qs = cc in
    ap₂ (λ a b. a ∷ b) (event_same (is_idle p) (is_idle q) p q h) (marked_same ps qs t)

-- ---- one frame

-- what is heard of a run, after a first frame that passes
pub heard_step : (s : Settings) (x : State) (f : List ℕ) (fs : List (List ℕ)) → Passes s x f
    → heard s x (f ∷ fs) ≡ (walked s x.step f).events ++ heard s (walked_to s f (walked s x.step f)) fs
heard_step s x f fs h =
    heard_first s x f fs
    ∙ rw (eq-eqb (first (frame_rows s f)) 0 h.enters.accepted, entered_events h.enters, entered_state h.enters) refl

-- ---- a run that carries packets passes, and they are what is heard of it

-- the judge passes the frames, and an extractor in the same state hands over the packets
pub record Runs (s : Settings) (n : ℕ) (x : State) (fs ps : List (List ℕ)) : Type 0 where
  pub passed : judged s n x fs ≡ pass
  pub hears : heard s x fs ≡ marked ps

runs_step : (s : Settings) (n : ℕ) (last : Option ℕ) (held f : List ℕ) (fs done rest : List (List ℕ)) (left : List ℕ)
    → Passes s (in_step_with last held) f → walked s (in_step held) f ≡ ends (marked done) (in_step left)
    → Runs s (n + 1) (in_step_with (some (count s f)) left) fs rest → Runs s n (in_step_with last held) (f ∷ fs) (done ++ rest)
runs_step s n last held f fs done rest left h w r = record {
  passed = judged_step s n (in_step_with last held) f fs h ∙ ap (λ v. judged s (n + 1) (walked_to s f v) fs) w ∙ r.passed;
  hears =
      heard_step s (in_step_with last held) f fs h
      ∙ ap (λ v. v.events ++ heard s (walked_to s f v) fs) w
      ∙ ap (λ es. marked done ++ es) r.hears
      ∙ sym (marked_append done rest);
}

-- what is to be shown of a run: entered in step, with the beginning of the first of the packets that its zones go on with
abbrev pub Carried : Settings → List (List ℕ) → Type 0
Carried s fs =
    (n : ℕ) (last : Option ℕ) (held : List ℕ) (ps : List (List ℕ)) → Counted s last → All (Bears s) fs → Follows s last fs
    → All (WellFormed s.limit) ps → BeginsFirst held ps → LaidFrom s ps (length held) fs → Runs s n (in_step_with last held) fs ps

-- at the end nothing is begun
begun_end : (held : List ℕ) (ps : List (List ℕ)) → BeginsFirst held ps → length held ≡ length (end_to_end ps) → (held ≡ []) × (ps ≡ [])
begun_end held [] b e = (b, refl)
begun_end held (p ∷ ps) b e = absurd (omega (arith, length-append p (end_to_end ps)))

carried_end : (s : Settings) → Carried s []
unfolding judged heard told LaidFrom close
carried_end s n last held ps k bear follows wf b laid =
    let e : (held ≡ []) × (ps ≡ []) = begun_end held ps b laid in
    record { passed = rw e.0; hears = rw e.1 }

-- a first frame that is idle: nothing is begun, and all stays as it is
carried_idle : (s : Settings) (f : List ℕ) (fs : List (List ℕ)) → Carried s fs → (n : ℕ) (last : Option ℕ) (held : List ℕ) (ps : List (List ℕ))
    → Counted s last → All (Bears s) (f ∷ fs) → Follows s last (f ∷ fs) → All (WellFormed s.limit) ps → BeginsFirst held ps
    → pointer s f ≡ idle_zone → Between ps (length held) → LaidFrom s ps (length held) fs → Runs s n (in_step_with last held) (f ∷ fs) ps
unfolding reason_in
carried_idle s f fs again n last held ps k bear follows wf b e between laid =
    runs_step s n last held f fs [] ps held passes (walked_idle s held f e)
    (again (n + 1) (some (count s f)) held ps (count_fits s f) bear.1 follows.1 wf b laid)
  where
    nil : held ≡ []
    nil = between_begun held ps b between

    passes : Passes s (in_step_with last held) f
    passes = record {
      enters = record {
        accepted = bears_rows s f bear.0 (pointer_beyond s (pointer s f) (omega arith));
        lost = (lost_next s last f k).1 follows.0;
        reason = rw nil (idle_agrees s (zone_of s f) (pointer s f) e);
      };
      untorn = rw (walked_idle s held f e);
    }

-- the octets of the packets after those of them in hand
begun_prefix : (held : List ℕ) (ps : List (List ℕ)) → BeginsFirst held ps → held ++ drop (length held) (end_to_end ps) ≡ end_to_end ps
begun_prefix held [] b = rw b
begun_prefix held (p ∷ ps) b =
    let t : List ℕ = b.0 in
    let e : held ++ (t ++ end_to_end ps) ≡ p ++ end_to_end ps = sym (append_assoc held t (end_to_end ps)) ∙ ap (λ r. r ++ end_to_end ps) (sym b.1) in
    ap (λ r. held ++ drop (length held) r) (sym e) ∙ ap (λ r. held ++ r) (drop-append_seam held (t ++ end_to_end ps)) ∙ e

-- a zone cut out of those octets, put back between what was before it and what comes after
zone_laid : (held z : List ℕ) (n : ℕ) (ps : List (List ℕ)) → BeginsFirst held ps → z ≡ take n (drop (length held) (end_to_end ps))
    → (held ++ z) ++ drop n (drop (length held) (end_to_end ps)) ≡ end_to_end ps
zone_laid held z n ps b e =
    let after : List ℕ = drop (length held) (end_to_end ps) in
    append_assoc held z (drop n after)
    ∙ ap (λ r. held ++ r) (ap (λ r. r ++ drop n after) e ∙ take-append-drop n after)
    ∙ begun_prefix held ps b

-- a first frame with data: its zone is walked, and the run after it goes on from the packet that the zone leaves begun
carried_data : (s : Settings) (f : List ℕ) (fs : List (List ℕ)) → Settled s → Carried s fs
    → (n : ℕ) (last : Option ℕ) (held : List ℕ) (ps : List (List ℕ))
    → Counted s last → All (Bears s) (f ∷ fs) → Follows s last (f ∷ fs) → All (WellFormed s.limit) ps → BeginsFirst held ps
    → (pointer s f ≡ idle_zone → ⊥) → pointer s f ≡ first_start s.zone (length held) (starts 0 ps)
    → zone_of s f ≡ take s.zone (drop (length held) (end_to_end ps)) → LaidFrom s ps (length held + s.zone) fs
    → Runs s n (in_step_with last held) (f ∷ fs) ps
unfolding reason_in walk
carried_data s f fs g again n last held ps k bear follows wf b ni e ze laid =
    rw c.packets
    (runs_step s n last held f fs c.done c.rest c.held passes gives
    (again (n + 1) (some (count s f)) c.held c.rest (count_fits s f) bear.1 follows.1 c.formed_rest c.begun
    ((laid_shift s s.limit c.done c.rest (length c.held) fs (some_limit g) c.formed_done).0 (rw (← seam, ← c.packets) laid))))
  where
    z : List ℕ
    z = zone_of s f

    after : List ℕ
    after = drop s.zone (drop (length held) (end_to_end ps))

    joined : (held ++ z) ++ after ≡ end_to_end ps
    joined = zone_laid held z s.zone ps b ze

    c : Cut s.limit (held ++ z) ps (walk s.limit (held ++ z))
    c = walk_cut (length (held ++ z)) s.limit ps (held ++ z) after (some_limit g) wf joined (le_refl (length (held ++ z)))

    gives : walked s (in_step held) f ≡ ends (marked c.done) (in_step c.held)
    gives = walked_data s held f ni ∙ c.gives

    seam : length held + s.zone ≡ length (end_to_end c.done) + length c.held
    seam = omega (arith, length_zone s f (bears_length s f bear.0), length-append held z, length-append (end_to_end c.done) c.held, ap length c.octets)

    passes : Passes s (in_step_with last held) f
    passes = record {
      enters = record {
        accepted = bears_rows s f bear.0 (used (first_start_range s.zone (length held) (starts 0 ps)));
        lost = (lost_next s last f k).1 follows.0;
        reason =
            start_agrees (pointer s f) (first_start s.zone (length held) (starts 0 ps)) held (agreed s held z)
            (agreed_start s held z after ps (some_limit g) g.zone_least (length_zone s f (bears_length s f bear.0)) wf joined b) e;
      };
      untorn = rw gives (any_torn_marked c.done);
    }
      where
        used : (first_start s.zone (length held) (starts 0 ps) < s.zone) ⊎ (first_start s.zone (length held) (starts 0 ps) ≡ no_start)
            → Used s (pointer s f)
        used (inl h) = pointer_inside s (pointer s f) (omega arith)
        used (inr h) = pointer_beyond s (pointer s f) (omega arith)

carried_frame : (s : Settings) (f : List ℕ) (fs : List (List ℕ)) → Settled s → Carried s fs → Carried s (f ∷ fs)
carried_frame s f fs g again n last held ps k bear follows wf b laid =
    test (eqb (pointer s f) idle_zone)
    (λ t.
    let idle : pointer s f ≡ idle_zone = eqb-true (pointer s f) idle_zone t in
    let (between, rest) = idle_laid s ps (length held) f fs idle laid in
    carried_idle s f fs again n last held ps k bear follows wf b idle between rest)
    (λ t.
    let data-zone : pointer s f ≡ idle_zone → ⊥ = eqb-false (pointer s f) idle_zone t in
    let (start, zone, rest) = data_laid s ps (length held) f fs data-zone laid in
    carried_data s f fs g again n last held ps k bear follows wf b data-zone start zone rest)

pub carried : (s : Settings) (fs : List (List ℕ)) → Settled s → Carried s fs
carried s [] g = carried_end s
carried s (f ∷ fs) g = carried_frame s f fs g (carried s fs g)

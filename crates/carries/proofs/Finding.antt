-- A run that passes carries packets.
-- Assumes nothing.
use mathlib.Core.Path.{◌≡◌, refl, sym, ap, ◌∙◌}
use mathlib.Core.List.{List, [], ◌∷◌, ◌++◌, append_assoc}
use mathlib.Core.Option.{Option, some}
use Prim.Native.Nat.{ℕ, ◌+◌}
use native.Mathlib.Nat.{le_refl}
use native.Mathlib.Omega.{arith}
use lib.ListN.{length, take, drop, length-append}
use lib.Seq.{drop-append_seam, take_at}
use lib.Dec.{eqb}
use borrow.Author.Tests.{eqb-true, eqb-false}
use Rattle.octets.specs.Basics.{All}
use Rattle.octets.proofs.Choices.{apart}
use Rattle.octets.proofs.Fronts.{all_joined}
use Rattle.octets.proofs.Tests.{test}
use Rattle.packets.specs.Packet.{WellFormed, end_to_end}
use Rattle.frames.specs.Frame.{idle_zone, zone_of, count, pointer}
use Rattle.frames.specs.declared.Settings.{Settings}
use Rattle.frames.proofs.Accepted.{length_zone}
use Rattle.frames.proofs.Settled.{Settled}
use Rattle.extractor.specs.Extract.{in_step, marked, ends, walk, agreed, reason_in, walked}
use Rattle.extractor.proofs.Places.{Begun}
use Rattle.extractor.proofs.Walked.{BeginsFirst, begun_first, Clean, walk_clean}
use Rattle.judge.specs.Judge.{pass, close, judged}
use Rattle.judge.proofs.Faults.{Passes}
use Rattle.judge.proofs.Verdicts.{walked_idle, walked_data, in_step_with, walked_to, judged_step, judged_passes}
use Rattle.carries.specs.Carries.{starts, first_start, LaidFrom, Bears}
use Rattle.carries.proofs.Bearing.{rows_bear, bears_length, Counted, count_fits, Follows, lost_next, some_limit}
use Rattle.carries.proofs.Joins.{end-to-end-append}
use Rattle.carries.proofs.Laid.{between-nil, laid_idle, laid_data, laid_shift, agreed_start, agrees_start, agrees_idle}

-- the packets that a run carries from its first frame on, of which `held` is the beginning
pub record Found (s : Settings) (last : Option ℕ) (held : List ℕ) (fs : List (List ℕ)) : Type 0 where
  pub packets : List (List ℕ)
  pub after : List ℕ
  pub bear : All (Bears s) fs
  pub follows : Follows s last fs
  pub formed : All (WellFormed s.limit) packets
  pub begins : held ++ after ≡ end_to_end packets
  pub laid : LaidFrom s packets (length held) fs

-- what is to be shown of a run: entered in step, with octets that are open
abbrev pub Finds : Settings → List (List ℕ) → Type 0
Finds s fs =
    (n : ℕ) (last : Option ℕ) (held : List ℕ) → Counted s last → Begun s.limit held → judged s n (in_step_with last held) fs ≡ pass → Found s last held fs

-- the verdict after a frame that passes
judged_after : (s : Settings) (n : ℕ) (last : Option ℕ) (held f : List ℕ) (fs done : List (List ℕ)) (left : List ℕ)
    → judged s n (in_step_with last held) (f ∷ fs) ≡ pass → walked s (in_step held) f ≡ ends (marked done) (in_step left)
    → judged s (n + 1) (in_step_with (some (count s f)) left) fs ≡ pass
judged_after s n last held f fs done left j w =
    ap (λ v. judged s (n + 1) (walked_to s f v) fs) (sym w)
    ∙ sym (judged_step s n (in_step_with last held) f fs (judged_passes s n (in_step_with last held) f fs j))
    ∙ j

finds_end : (s : Settings) → Finds s []
unfolding judged close LaidFrom
finds_end s n last [] k o j = record { packets = []; after = []; bear = tt; follows = tt; formed = tt; begins = refl; laid = refl }
finds_end s n last (x ∷ held) k o j = apart (cc)

finds_idle : (s : Settings) (f : List ℕ) (fs : List (List ℕ)) → Settled s → Finds s fs → (n : ℕ) (last : Option ℕ) (held : List ℕ)
    → Counted s last → Begun s.limit held → judged s n (in_step_with last held) (f ∷ fs) ≡ pass → pointer s f ≡ idle_zone → Found s last held (f ∷ fs)
unfolding reason_in
finds_idle s f fs g again n last held k o j e = record {
  packets = r.packets;
  after = r.after;
  bear = (rows_bear s f h.enters.accepted, r.bear);
  follows = ((lost_next s last f k).0 h.enters.lost, r.follows);
  formed = r.formed;
  begins = r.begins;
  laid = laid_idle s r.packets (length held) f fs e (between-nil held r.packets nil) r.laid;
}
  where
    h : Passes s (in_step_with last held) f
    h = judged_passes s n (in_step_with last held) f fs j

    nil : held ≡ []
    nil = agrees_idle s held (zone_of s f) g.zone_most (rw (← e) h.enters.reason)

    r : Found s (some (count s f)) held fs
    r = again (n + 1) (some (count s f)) held (count_fits s f) o (judged_after s n last held f fs [] held j (walked_idle s held f e))

-- a first frame with data: the packets that its zone completes, and those of the run after it
finds_data : (s : Settings) (f : List ℕ) (fs : List (List ℕ)) → Settled s → Finds s fs → (n : ℕ) (last : Option ℕ) (held : List ℕ)
    → Counted s last → Begun s.limit held → judged s n (in_step_with last held) (f ∷ fs) ≡ pass → (pointer s f ≡ idle_zone → ⊥)
    → Found s last held (f ∷ fs)
unfolding reason_in walk
finds_data s f fs g again n last held k o j ni = record {
  packets = ps;
  after = z ++ r.after;
  bear = (bears, r.bear);
  follows = ((lost_next s last f k).0 h.enters.lost, r.follows);
  formed = formed;
  begins = sym (append_assoc held z r.after) ∙ joined;
  laid = laid_data s ps (length held) f fs ni start zone
      (rw seam ((laid_shift s s.limit c.done r.packets (length c.held) fs (some_limit g) c.formed).1 r.laid));
}
  where
    z : List ℕ
    z = zone_of s f

    h : Passes s (in_step_with last held) f
    h = judged_passes s n (in_step_with last held) f fs j

    bears : Bears s f
    bears = rows_bear s f h.enters.accepted

    c : Clean s.limit (held ++ z) (walk s.limit (held ++ z))
    c = walk_clean (length (held ++ z)) s.limit (held ++ z) (some_limit g) (le_refl (length (held ++ z)))
        (rw (walked_data s held f ni) at h.untorn)

    r : Found s (some (count s f)) c.held fs
    r = again (n + 1) (some (count s f)) c.held (count_fits s f) c.left_begun
        (judged_after s n last held f fs c.done c.held j (walked_data s held f ni ∙ c.gives))

    ps : List (List ℕ)
    ps = c.done ++ r.packets

    formed : All (WellFormed s.limit) ps
    formed = all_joined (WellFormed s.limit) c.done r.packets c.formed r.formed

    joined : (held ++ z) ++ r.after ≡ end_to_end ps
    joined =
        ap (λ os. os ++ r.after) c.octets
        ∙ append_assoc (end_to_end c.done) c.held r.after
        ∙ ap (λ os. end_to_end c.done ++ os) r.begins
        ∙ sym (end-to-end-append c.done r.packets)

    seam : length held + s.zone ≡ length (end_to_end c.done) + length c.held
    seam = omega (arith, length_zone s f (bears_length s f bears), length-append held z, length-append (end_to_end c.done) c.held, ap length c.octets)

    begun : BeginsFirst held ps
    begun = begun_first s.limit held (z ++ r.after) ps (some_limit g) formed (sym (append_assoc held z r.after) ∙ joined) o

    start : pointer s f ≡ first_start s.zone (length held) (starts 0 ps)
    start =
        agrees_start (pointer s f) (first_start s.zone (length held) (starts 0 ps)) held (agreed s held z)
        (agreed_start s held z r.after ps (some_limit g) g.zone_least (length_zone s f (bears_length s f bears)) formed joined begun) ni h.enters.reason

    zone : z ≡ take s.zone (drop (length held) (end_to_end ps))
    zone =
        sym (ap (λ os. take s.zone (drop (length held) os)) (sym joined ∙ append_assoc held z r.after)
        ∙ ap (take s.zone) (drop-append_seam held (z ++ r.after))
        ∙ take_at z r.after s.zone (length_zone s f (bears_length s f bears)))

finds_frame : (s : Settings) (f : List ℕ) (fs : List (List ℕ)) → Settled s → Finds s fs → Finds s (f ∷ fs)
finds_frame s f fs g again n last held k o j =
    test (eqb (pointer s f) idle_zone)
    (λ q. finds_idle s f fs g again n last held k o j (eqb-true (pointer s f) idle_zone q))
    (λ q. finds_data s f fs g again n last held k o j (eqb-false (pointer s f) idle_zone q))

pub finds : (s : Settings) (fs : List (List ℕ)) → Settled s → Finds s fs
finds s [] g = finds_end s
finds s (f ∷ fs) g = finds_frame s f fs g (finds s fs g)

-- Demand 3 over the written rules.
-- Assumes nothing.
use mathlib.Core.Path.{◌≡◌, refl, sym, ap, ◌∙◌}
use mathlib.Core.Logic.{◌⊎◌, inl, inr}
use mathlib.Core.List.{List, [], ◌∷◌, ◌++◌}
use mathlib.Core.Option.{none}
use mathlib.Core.Bool.{Bool, true, false}
use Prim.Native.Nat.{ℕ}
use native.Mathlib.Omega.{arith}
use lib.Dec.{eqb}
use borrow.Author.Tests.{eqb-true}
use Rattle.octets.specs.Basics.{pick, or}
use Rattle.packets.specs.Packet.{end_to_end}
use Rattle.frames.specs.Frame.{idle_zone, in_range, zone_of, pointer}
use Rattle.frames.specs.declared.Settings.{Settings}
use Rattle.frames.proofs.Settled.{Settled, settled}
use Rattle.extractor.specs.Extract.{astray, in_step, fresh, any_torn, agreed, reason_by, reason_in, lost_since, walked, told, heard}
use Rattle.extractor.proofs.Walked.{begun-nil, begun_first}
use Rattle.judge.specs.Judge.{opened, pass, verdict}
use Rattle.judge.proofs.Faults.{Passes}
use Rattle.judge.proofs.Verdicts.{walked_to, judged_passes}
use Rattle.carries.specs.Carries.{Carries}
use Rattle.carries.specs.Judged.{JudgedRight}
use Rattle.carries.proofs.Bearing.{rising_follows, some_limit}
use Rattle.carries.proofs.Carrying.{marked_same, heard_step, Runs, carried}
use Rattle.carries.proofs.Finding.{Found, finds}

-- ---- a fresh extractor hears what the judge's hears

-- with nothing begun, a zone that agrees begins a packet or is idle
agrees_nil : (s : Settings) (z : List ℕ) (p : ℕ) → reason_by p (agreed s [] z) ≡ 0 → (p ≡ 0) ⊎ (p ≡ idle_zone)
unfolding reason_by agreed
agrees_nil s z p r = go (eqb p 0) (eqb p idle_zone) refl refl r
  where
    go : (t u : Bool) → eqb p 0 ≡ t → eqb p idle_zone ≡ u → pick {A = ℕ} (or t (or u false)) 0 2 ≡ 0 → (p ≡ 0) ⊎ (p ≡ idle_zone)
    go true u e h r = inl (eqb-true p 0 e)
    go false true e h r = inr (eqb-true p idle_zone h)
    go false false e h r = absurd (omega arith)

-- such a zone is walked alike out of step
walked_fresh : (s : Settings) (f : List ℕ) → (pointer s f ≡ 0) ⊎ (pointer s f ≡ idle_zone) → walked s astray f ≡ walked s (in_step []) f
unfolding walked
walked_fresh s f (inl e) = rw e
walked_fresh s f (inr e) = rw e

-- so a first frame that passes for the judge passes for a fresh extractor, and gives and leaves the same
pub record AsFresh (s : Settings) (f : List ℕ) : Type 0 where
  pub passes : Passes s fresh f
  pub same : walked s astray f ≡ walked s (in_step []) f

pub passes_fresh : (s : Settings) (f : List ℕ) → Passes s opened f → AsFresh s f
unfolding reason_in lost_since
passes_fresh s f h =
    let w : walked s astray f ≡ walked s (in_step []) f = walked_fresh s f (agrees_nil s (zone_of s f) (pointer s f) h.enters.reason) in
    record { passes = record { enters = record { accepted = h.enters.accepted; lost = refl; reason = refl }; untorn = ap (λ v. any_torn v.events) w ∙ h.untorn }; same = w }

heard_fresh : (s : Settings) (fs : List (List ℕ)) → verdict s fs ≡ pass → heard s fresh fs ≡ heard s opened fs
unfolding verdict heard told
heard_fresh s [] j = refl
heard_fresh s (f ∷ fs) j =
    let h : Passes s opened f = judged_passes s 0 opened f fs j in
    let r : AsFresh s f = passes_fresh s f h in
    heard_step s fresh f fs r.passes
    ∙ ap (λ v. v.events ++ heard s (walked_to s f v) fs) r.same
    ∙ sym (heard_step s opened f fs h)

-- ---- demand 3

carries_runs : (s : Settings) (fs ps : List (List ℕ)) → Settled s → Carries s fs ps → Runs s 0 opened fs ps
carries_runs s fs ps g c =
    carried s fs g 0 none [] ps tt c.bear ((rising_follows s fs).0 c.rise) c.formed
    (begun_first s.limit [] (end_to_end ps) ps (some_limit g) c.formed refl (begun-nil s.limit)) c.laid

found_carries : (s : Settings) (fs : List (List ℕ)) (r : Found s none [] fs) → Carries s fs r.packets
found_carries s fs r = record { bear = r.bear; rise = (rising_follows s fs).1 r.follows; formed = r.formed; laid = r.laid }

-- Two lists that a run carries are equal because both are what is heard of it.
pub judged_right : (s : Settings) → in_range s ≡ true → (fs : List (List ℕ)) → JudgedRight s fs
unfolding verdict
judged_right s e fs = record {
  sound = λ j. let r : Found s none [] fs = finds s fs g 0 none [] tt (begun-nil s.limit) j in (r.packets, found_carries s fs r);
  complete = λ ps c. (carries_runs s fs ps g c).passed;
  only = λ ps qs c d. marked_same ps qs (sym (carries_runs s fs ps g c).hears ∙ (carries_runs s fs qs g d).hears);
  handed_over = λ ps c. heard_fresh s fs (carries_runs s fs ps g c).passed ∙ (carries_runs s fs ps g c).hears;
}
  where
    g : Settled s
    g = settled s e

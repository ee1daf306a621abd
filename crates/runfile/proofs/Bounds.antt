-- What settings that a setup can give are bounded by, the progress that a file can lead to, and the bodies under them.
-- Assumes nothing.
use mathlib.Core.Path.{◌≡◌, refl}
use mathlib.Core.List.{List}
use mathlib.Core.Bool.{Bool, true, false}
use Prim.Native.Nat.{ℕ, ◌+◌, ◌≤◌}
use native.Mathlib.Omega.{arith}
use lib.Dec.{ltb, eqb}
use borrow.Author.Tests.{le-leb, leb-true, eq-eqb, eqb-true, not-true}
use Rattle.octets.specs.Basics.{pick, and}
use Rattle.octets.proofs.Choices.{and_true}
use Rattle.trailer.specs.Trailer.{extra}
use Rattle.frames.specs.Link.{zone_at}
use Rattle.frames.specs.Frame.{frame_length, most_frames}
use Rattle.frames.specs.Edition.{is_former}
use Rattle.frames.specs.declared.Edition.{Edition}
use Rattle.frames.specs.declared.Edition.TheVariants.{Former, CycleUnused, CycleUsed}
use Rattle.frames.specs.declared.Settings.{Settings}
use Rattle.frames.proofs.Settled.{Settled, settled}
use Rattle.runfile.specs.RunFile.{setup_of, plain, fits}
use Rattle.runfile.specs.Steps.{reachable, body_length}
use Rattle.runfile.specs.declared.Progress.{Progress}
use Rattle.runfile.specs.declared.Progress.TheVariants.{Start, Running, Ended, Bad}

pub record Fitting (s : Settings) : Type 0 where
  pub in_numbers : Settled s
  pub limit_here : s.limit ≤ 4096
  pub no_trailer : s.link.trailed ≡ false
  pub former : s.link.edition ≡ Former

pub fitting : (s : Settings) → fits s ≡ true → Fitting s
unfolding fits plain
fitting s e =
    let a = and_true _ _ e in
    let b = and_true _ _ a.1 in
    let c = and_true _ _ b.1 in
    record {
      in_numbers = settled s a.0;
      limit_here = leb-true _ _ b.0;
      no_trailer = not-true _ c.1;
      former = is_former_only s.link.edition c.0;
    }
  where
    is_former_only : (d : Edition) → is_former d ≡ true → d ≡ Former
    is_former_only Former t = refl
    is_former_only CycleUnused t = cc
    is_former_only CycleUsed t = cc

-- no record has a longer body
abbrev pub most_body : ℕ
most_body = 2054

-- a frame has nothing behind its zone
pub frame_plain : (s : Settings) → fits s ≡ true → frame_length s ≡ s.zone + zone_at s.link
unfolding frame_length extra
frame_plain s e = rw (fitting s e).no_trailer refl

pub frame_most : (s : Settings) → fits s ≡ true → frame_length s ≤ most_body
frame_most s e = omega (arith, frame_plain s e, (fitting s e).in_numbers.zone_most)

-- what the progress after n frames has where a file can lead to it
pub record Standing (s : Settings) (n : ℕ) : Type 0 where
  pub settings_fit : fits s ≡ true
  pub no_fill : s.fill ≡ 0
  pub frames_most : n ≤ most_frames

pub standing : (s : Settings) (n : ℕ) → reachable (Running s n) ≡ true → Standing s n
unfolding reachable
standing s n e =
    let a = and_true (fits s) _ e in
    let b = and_true (eqb s.fill 0) _ a.1 in
    record { settings_fit = a.0; no_fill = eqb-true _ _ b.0; frames_most = leb-true _ _ b.1 }

pub running : (s : Settings) → fits s ≡ true → s.fill ≡ 0 → (n : ℕ) → n ≤ most_frames → reachable (Running s n) ≡ true
unfolding reachable
running s fit clear n few = rw (fit, eq-eqb s.fill 0 clear, le-leb n most_frames few) refl

-- a setup says nothing of a fill octet
pub setup_no_fill : (b : List ℕ) → (setup_of b).fill ≡ 0
unfolding setup_of
setup_no_fill b = refl

pick_le : (t : Bool) {a : ℕ} → (t ≡ true → a ≤ most_body) → pick t a 0 ≤ most_body
pick_le true h = h refl
pick_le false h = omega arith

pub body_most : (r : Progress) (kind : ℕ) → body_length r kind ≤ most_body
unfolding body_length
body_most Start kind = pick_le (eqb kind 1) (λ t. omega arith)
body_most (Running s n) kind =
    pick_le (and (reachable (Running s n)) (and (eqb kind 2) (ltb n most_frames)))
    (λ t. frame_most s (standing s n (and_true (reachable (Running s n)) _ t).0).settings_fit)
body_most (Ended n) kind = omega arith
body_most (Bad n) kind = omega arith

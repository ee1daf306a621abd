-- The run file of settings and frames says these and nothing else, and a file that is a run is the run file of what it says.
-- Assumes nothing.
use mathlib.Core.Path.{◌≡◌, refl, sym, ap, subst, ◌∙◌}
use mathlib.Core.List.{List, [], ◌∷◌, ◌++◌}
use mathlib.Core.Bool.{Bool, true, false}
use mathlib.Core.Option.{Option, none, some}
use Prim.Native.Nat.{ℕ, zero, suc, ◌+◌, ◌≤◌}
use native.Mathlib.Omega.{arith}
use lib.ListN.{length, take, drop, length-append, length-drop, take-append-drop}
use lib.Seq.{take_at, drop_at, take_all, take-append-le, drop-append-le, drop-cons, drop-drop, length-take-le}
use lib.Dec.{leb, eqb}
use borrow.Author.Tests.{le-leb, leb-true, eqb-true}
use Rattle.octets.specs.Basics.{and, All, AllOctets, octets, number_at}
use Rattle.octets.proofs.Choices.{and_true}
use Rattle.octets.proofs.Numbers.{number_octets, number_within, octets_again}
use Rattle.frames.specs.Frame.{frame_length, most_frames}
use Rattle.frames.specs.declared.Edition.{Edition}
use Rattle.frames.specs.declared.Edition.TheVariants.{Former}
use Rattle.frames.specs.declared.Settings.{Settings}
use Rattle.runfile.specs.RunFile.{setup_length, setup_of, fits, Reading, stop, with_setup, with_frame, body, beyond, records, stands, ending, nothing_after, reading, Recorded, setup_octets, frame_octets, run_file, Run, whole}
use Rattle.runfile.proofs.Bounds.{fitting}

-- ---- written, then read

pub setup_back : (s : Settings) → fits s ≡ true → s.fill ≡ 0 → setup_of (setup_octets s) ≡ s
unfolding setup_of setup_octets octets number_at
setup_back s fit clear =
    let b = fitting s fit in
    rw (
      number_octets 2 s.zone (omega (arith, b.in_numbers.zone_most)),
      number_octets 3 s.limit (omega (arith, b.limit_here)),
    )
    (ap (λ (on : Bool). with_rest on Former 0) (sym b.no_trailer)
    ∙ ap (λ (e : Edition). with_rest s.link.trailed e 0) (sym b.former)
    ∙ ap (with_rest s.link.trailed s.link.edition) (sym clear))
  where
    with_rest : Bool → Edition → ℕ → Settings
    with_rest on e octet = record {
      link = record { spacecraft = s.link.spacecraft; channel = s.link.channel; trailed = on; edition = e };
      zone = s.zone;
      limit = s.limit;
      fill = octet;
    }

abbrev said : List (List ℕ) → Reading
said fs = record { setup = none; frames = fs; bad = none }

frames_back : (size most n : ℕ) (fs : List (List ℕ)) → All (λ (f : List ℕ). length f ≡ size) fs → length fs + n ≤ most_frames + 1
    → length (frame_octets fs) ≤ most → records most size n (frame_octets fs) ≡ said fs
unfolding records stands ending nothing_after stop with_frame frame_octets
frames_back size zero n [] a h k = absurd (omega arith)
frames_back size zero n (f ∷ fs) a h k = absurd (omega arith)
frames_back size (suc most) n [] a h k = refl
frames_back size (suc most) n (f ∷ fs) a h k =
    let rest : List ℕ = frame_octets fs in
    let long : length (f ++ rest) ≡ size + length rest = length-append f rest ∙ ap (λ (m : ℕ). m + length rest) a.0 in
    rw (
      le-leb size (length (f ++ rest)) (omega arith),
      le-leb n most_frames (omega arith),
      take_at f rest size a.0,
      drop_at f rest size a.0,
      frames_back size most (n + 1) fs a.1 (omega arith) (omega arith),
    )
    refl

after_setup : (s : Settings) (b os : List ℕ) → length b ≡ setup_length → setup_of b ≡ s → fits s ≡ true
    → reading (1 ∷ (b ++ os)) ≡ with_setup s (records (suc (length (b ++ os))) (frame_length s) 1 os)
unfolding reading stands
after_setup s b os long e fit =
    rw (
      le-leb setup_length (length (b ++ os)) (rw length-append (omega arith)),
      take_at b os setup_length long,
      drop_at b os setup_length long,
      e,
      fit,
    )
    refl

pub written_read : (s : Settings) (fs : List (List ℕ)) → Recorded s fs → reading (run_file s fs) ≡ whole s fs
unfolding run_file with_setup setup_octets octets
written_read s fs r =
    after_setup s (setup_octets s) (frame_octets fs) refl (setup_back s r.settings_fit r.no_fill) r.settings_fit
    ∙ ap (with_setup s)
    (frames_back (frame_length s) _ 1 fs r.frames_whole (omega (arith, r.frames_most))
    (rw length-append (omega arith)))

-- ---- read, then written

apart : {A : Type 0} → ◌≡◌ {A = ℕ} 0 1 → A
apart e = absurd (omega arith)

-- a record that stands first is its octet of kind, its body and what stands after it
stood : (kind size : ℕ) (os : List ℕ) → stands kind size os ≡ true
    → (os ≡ kind ∷ (body size os ++ beyond size os)) × (length (body size os) ≡ size)
unfolding stands
stood kind size (k ∷ os) e =
    let a = and_true (eqb k kind) _ e in
    (rw (eqb-true k kind a.0, take-append-drop size os) refl, length-take-le size os (leb-true size (length os) a.1))
stood kind size [] e = apart (cc)

nothing_left : (n : ℕ) (os : List ℕ) → nothing_after n os ≡ none → os ≡ []
unfolding nothing_after
nothing_left n [] e = refl
nothing_left n (k ∷ os) e = apart (cc)

ended : (n : ℕ) (os : List ℕ) → ending n os ≡ none → os ≡ frame_octets []
unfolding ending frame_octets
ended n os e = go (stands 3 0 os) refl
  where
    go : (t : Bool) → stands 3 0 os ≡ t → os ≡ 3 ∷ []
    go true t = (stood 3 0 os t).0 ∙ ap (λ (rest : List ℕ). 3 ∷ rest) (nothing_left (n + 1) (beyond 0 os) (rw t at e))
    go false t = let g : some n ≡ none = rw t at e in apart (cc)

record Framed (size n : ℕ) (os : List ℕ) (fs : List (List ℕ)) : Type 0 where
  octets_are : os ≡ frame_octets fs
  frames_whole : All (λ (f : List ℕ). length f ≡ size) fs
  frames_most : length fs + n ≤ most_frames + 1

no_frames : (size n : ℕ) (os : List ℕ) → n ≤ most_frames + 1 → ending n os ≡ none → Framed size n os []
no_frames size n os h e = record { octets_are = ended n os e; frames_whole = tt; frames_most = omega arith }

abbrev FramesRead : ℕ → ℕ → ℕ → List ℕ → Type 0
FramesRead most size n os = n ≤ most_frames + 1 → (records most size n os).bad ≡ none → Framed size n os (records most size n os).frames

frame_read : (most size n : ℕ) (os : List ℕ) → FramesRead most size (n + 1) (beyond size os) → (t : Bool)
    → and (stands 2 size os) (leb n most_frames) ≡ t → FramesRead (suc most) size n os
unfolding records stop with_frame frame_octets
frame_read most size n os rest true t h e =
    let a = and_true (stands 2 size os) (leb n most_frames) t in
    let i = rest (omega (arith, leb-true n most_frames a.1)) (rw t at e) in
    let f = stood 2 size os a.0 in
    rw t
    (record {
      octets_are = f.0 ∙ ap (λ (l : List ℕ). 2 ∷ (body size os ++ l)) i.octets_are;
      frames_whole = (f.1, i.frames_whole);
      frames_most = omega (arith, i.frames_most);
    })
frame_read most size n os rest false t h e = rw t (no_frames size n os h (rw t at e))

frames_read : (most size n : ℕ) (os : List ℕ) → FramesRead most size n os
unfolding records stop
frames_read zero size n os h e = no_frames size n os h e
frames_read (suc most) size n os h e =
    frame_read most size n os (frames_read most size (n + 1) (beyond size os)) (and (stands 2 size os) (leb n most_frames)) refl h e

-- the octets of a body, with more octets after it, are those of the numbers that it says
again : (b rest : List ℕ) (n at : ℕ) → AllOctets (b ++ rest) → at + n ≤ length b → octets n (number_at n at b) ≡ take n (drop at b)
again b rest n at o h =
    let within : at + n ≤ length (b ++ rest) = rw length-append (omega arith) in
    let same : take n (drop at (b ++ rest)) ≡ take n (drop at b) =
    rw (drop-append-le at b rest (omega arith)) (take-append-le n (drop at b) rest (rw length-drop (omega arith))) in
    rw (number_within n at b h) (rw same at (octets_again (b ++ rest) at n o within))

setup_again : (b rest : List ℕ) → AllOctets (b ++ rest) → length b ≡ setup_length → setup_octets (setup_of b) ≡ b
unfolding setup_of setup_octets
setup_again b rest o e =
    rw (again b rest 2 2 o (omega arith), again b rest 3 4 o (omega arith))
    (cc (
      drop-cons b 0 0 (omega arith),
      drop-cons b 1 0 (omega arith),
      take-append-drop 2 (drop 2 b),
      drop-drop 2 2 b,
      take_all 3 (drop 4 b) (rw length-drop (omega arith)),
    ))

module _ (os : List ℕ) (o : AllOctets os) where
  abbrev settings : Settings
  settings = setup_of (body setup_length os)

  abbrev after : List ℕ
  after = beyond setup_length os

  run_after : stands 1 setup_length os ≡ true → fits settings ≡ true
      → (records (length os) (frame_length settings) 1 after).bad ≡ none → Run os
  unfolding setup_of run_file
  run_after first fit e =
      let split = stood 1 setup_length os first in
      let o' : AllOctets (1 ∷ (body setup_length os ++ after)) = subst AllOctets split.0 o in
      let rest = frames_read (length os) (frame_length settings) 1 after (omega arith) e in
      record {
        settings = settings;
        frames = (records (length os) (frame_length settings) 1 after).frames;
        recorded =
            record {
              settings_fit = fit;
              no_fill = refl;
              frames_whole = rest.frames_whole;
              frames_most = omega (arith, rest.frames_most);
            };
        octets_are =
            split.0
            ∙ ap (λ (b : List ℕ). 1 ∷ (b ++ after)) (sym (setup_again (body setup_length os) after o'.1 split.1))
            ∙ ap (λ (l : List ℕ). 1 ∷ (setup_octets settings ++ l)) rest.octets_are;
      }

  -- a file without a bad record is a run
  pub read_run : (reading os).bad ≡ none → Run os
  unfolding reading with_setup stop
  read_run e = go (and (stands 1 setup_length os) (fits settings)) refl
    where
      go : (t : Bool) → and (stands 1 setup_length os) (fits settings) ≡ t → Run os
      go true t =
          let a = and_true (stands 1 setup_length os) (fits settings) t in
          run_after a.0 a.1 (rw t at e)
      go false t = let g : ◌≡◌ {A = Option ℕ} (some 0) none = rw t at e in apart (cc)

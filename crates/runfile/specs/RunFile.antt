-- A run file: records of one octet of kind and a body whose length the kind fixes. 1 is the setup, 2 a frame, 3 the end; a run is one
-- setup, any frames, one end, and nothing after.
use Rattle.std.specs.Prelude.{ℕ, zero, suc, ◌+◌, ◌≤◌, ◌≡◌, List, [], ◌∷◌, ◌++◌, Bool, true, false, not, length, take, drop, get_or, leb, eqb}
use Rattle.std.proofs.Math.Option.{Option, none, some}
use Rattle.octets.specs.Basics.{pick, and, octets, number_at}
use Rattle.frames.specs.Frame.{in_range, frame_length, Frames, most_frames}
use Rattle.frames.specs.Edition.{is_former}
use Rattle.frames.specs.declared.Edition.TheVariants.{Former}
use Rattle.frames.specs.declared.Link.{Link}
use Rattle.frames.specs.declared.Settings.{Settings}

-- a setup has so many octets of body
abbrev pub setup_length : ℕ
setup_length = 7

-- what they say: spacecraft, channel, Z in two octets, M in three
unfoldable pub setup_of : List ℕ → Settings
setup_of body =
    record {
      link = record { spacecraft = get_or body 0 0; channel = get_or body 1 0; trailed = false; edition = Former };
      zone = number_at 2 2 body;
      limit = number_at 3 4 body;
      fill = 0;
    }

-- what a setup says nothing of is as it was before there were settings for it: no trailer, and the header of 701.0-B-2
unfoldable pub plain : Link → Bool
plain l = and (is_former l.edition) (not l.trailed)

-- within the numbers, and M here at most 4,096
unfoldable pub fits : Settings → Bool
fits s = and (in_range s) (and (leb s.limit 4096) (plain s.link))

-- what a run file says: the settings where its setup is good, the frames before its first bad record, and that record's number, from
-- 0, where there is one
pub record Reading : Type 0 where
  pub setup : Option Settings
  pub frames : List (List ℕ)
  pub bad : Option ℕ

-- nothing more is said but what record is bad, if one is
unfoldable pub stop : Option ℕ → Reading
stop n = record { setup = none; frames = []; bad = n }

-- the setup, or a frame, before what else is said
unfoldable pub with_setup : Settings → Reading → Reading
with_setup s r = record { setup = some s; frames = r.frames; bad = r.bad }

unfoldable pub with_frame : List ℕ → Reading → Reading
with_frame f r = record { setup = r.setup; frames = f ∷ r.frames; bad = r.bad }

-- whether a whole record of this kind stands first, with so many octets of body
unfoldable pub stands : ℕ → ℕ → List ℕ → Bool
stands kind size [] = false
stands kind size (k ∷ os) = and (eqb k kind) (leb size (length os))

-- its body, and what stands after it
abbrev pub body : ℕ → List ℕ → List ℕ
body size os = take size (drop 1 os)

abbrev pub beyond : ℕ → List ℕ → List ℕ
beyond size os = drop size (drop 1 os)

-- the bad record where nothing should stand any more, n the number of the next
unfoldable pub nothing_after : ℕ → List ℕ → Option ℕ
nothing_after n [] = none
nothing_after n (k ∷ os) = some n

-- the bad record where the end should stand
unfoldable pub ending : ℕ → List ℕ → Option ℕ
ending n os = pick (stands 3 0 os) (nothing_after (n + 1) (beyond 0 os)) (some n)

-- the records from number n on, so many of them at most: frames of `size` octets, whose numbers are 1 to 16,777,216, and then the end
unfoldable pub records : ℕ → ℕ → ℕ → List ℕ → Reading
records zero size n os = stop (ending n os)
records (suc most) size n os =
    pick (and (stands 2 size os) (leb n most_frames))
    (with_frame (body size os) (records most size (n + 1) (beyond size os)))
    (stop (ending n os))

-- what the octets of a run file say; each record takes one of them at least
unfoldable pub reading : List ℕ → Reading
reading os =
    let s : Settings = setup_of (body setup_length os) in
    pick (and (stands 1 setup_length os) (fits s))
    (with_setup s (records (length os) (frame_length s) 1 (beyond setup_length os)))
    (stop (some 0))

-- ---- the same the other way round: the run file of settings and frames

-- settings and frames that a run file can have
pub record Recorded (s : Settings) (fs : List (List ℕ)) : Type 0 where
  pub settings_fit : fits s ≡ true
  pub no_fill : s.fill ≡ 0
  pub frames_whole : Frames s fs
  pub frames_most : length fs ≤ most_frames

unfoldable pub setup_octets : Settings → List ℕ
setup_octets s = s.link.spacecraft ∷ s.link.channel ∷ (octets 2 s.zone ++ octets 3 s.limit)

-- each frame as a record, and the end
unfoldable pub frame_octets : List (List ℕ) → List ℕ
frame_octets [] = 3 ∷ []
frame_octets (f ∷ fs) = 2 ∷ (f ++ frame_octets fs)

unfoldable pub run_file : Settings → List (List ℕ) → List ℕ
run_file s fs = 1 ∷ (setup_octets s ++ frame_octets fs)

-- octets that are a run, said without reading them
pub record Run (os : List ℕ) : Type 0 where
  pub settings : Settings
  pub frames : List (List ℕ)
  pub recorded : Recorded settings frames
  pub octets_are : os ≡ run_file settings frames

-- what a run says
abbrev pub whole : Settings → List (List ℕ) → Reading
whole s fs = record { setup = some s; frames = fs; bad = none }

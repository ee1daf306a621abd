-- What a frame that is not refused is like, row by row.
-- Assumes nothing.
use Rattle.std.proofs.Common.{◌≡◌, ℕ, Bool, true, false, not, List, ◌∷◌, length, refl, eq-eqb, eqb-true}
use borrow.Author.Tests.{not-false}
use Rattle.octets.specs.Basics.{pick, Row, row, first}
use Rattle.words.specs.Fields.{read}
use Rattle.octets.proofs.Choices.{and_true, none_holds}
use Rattle.trailer.specs.Trailer.{wrong}
use Rattle.frames.specs.Edition.{signals}
use Rattle.frames.specs.Link.{primary, zone_head, header_rows, version_place, spacecraft_place, channel_place}
use Rattle.frames.specs.Shape.{Shape, shape_length, spare_above, pointer_at, shape_unused, outer_rows, shape_rows}
use Rattle.frames.specs.declared.Link.{Link}

-- where the row of the settings stands above, it need not stand again
pub settled_once : (settled : Bool) (rows : List Row) (between : ℕ → ℕ)
    → pick (not settled) 1 (between (first (row 1 (not settled) ∷ rows))) ≡ pick (not settled) 1 (between (first rows))
unfolding first
settled_once true rows between = refl
settled_once false rows between = refl

pub record SoundHeader (l : Link) (head zone_spare : ℕ) (unused : Bool) : Type 0 where
  pub version_right : read version_place head ≡ 1
  pub spacecraft_right : read spacecraft_place head ≡ l.spacecraft
  pub channel_right : read channel_place head ≡ l.channel
  pub signal_right : signals l.edition head ≡ true
  pub zone_spare_clear : zone_spare ≡ 0
  pub pointer_used : unused ≡ false

pub sound_header : (l : Link) (head zone_spare : ℕ) (unused : Bool) → first (header_rows l head zone_spare unused) ≡ 0
    → SoundHeader l head zone_spare unused
unfolding header_rows
sound_header l head zone_spare unused e =
    let v = none_holds 3 _ _ e in
    let c = none_holds 4 _ _ v.1 in
    let s = none_holds 5 _ _ c.1 in
    let p = none_holds 6 _ _ s.1 in
    let channels = and_true _ _ (not-false _ c.0) in
    let spares = and_true _ _ (not-false _ s.0) in
    record {
      version_right = eqb-true _ _ (not-false _ v.0);
      spacecraft_right = eqb-true _ _ channels.0;
      channel_right = eqb-true _ _ channels.1;
      signal_right = spares.0;
      zone_spare_clear = eqb-true _ _ spares.1;
      pointer_used = p.0;
    }

-- a header whose fields are right is not refused
pub header_taken : (l : Link) (head spare : ℕ) (unused : Bool) → SoundHeader l head spare unused → first (header_rows l head spare unused) ≡ 0
unfolding first header_rows
header_taken l head spare unused h =
    rw (eq-eqb _ _ h.version_right, eq-eqb _ _ h.spacecraft_right, eq-eqb _ _ h.channel_right, h.signal_right, eq-eqb _ _ h.zone_spare_clear, h.pointer_used) refl

-- the fields of the zone's header, over the shape
abbrev pub SoundFields : Shape → ℕ → ℕ → Type 0
SoundFields h head zone =
    SoundHeader h.link head (read (spare_above h.width) zone) (shape_unused h (read (pointer_at h.width) zone))

-- a frame that is not refused before its headers has its length, and its trailer
pub sound_before : (h : Shape) (f : List ℕ) → first (outer_rows h f) ≡ 0 → (length f ≡ shape_length h) × (wrong h.link.trailed f ≡ false)
sound_before h f e =
    let n = none_holds 2 _ _ e in
    (eqb-true _ _ (not-false _ n.0), (none_holds 12 _ _ n.1).0)

pub record SoundFrame (h : Shape) (f : List ℕ) : Type 0 where
  pub length-right : length f ≡ shape_length h
  pub trailer_right : wrong h.link.trailed f ≡ false
  pub header : SoundFields h (primary h.link f) (zone_head h.link f)

pub sound_frame : (h : Shape) (f : List ℕ) → first (shape_rows h f) ≡ 0 → SoundFrame h f
sound_frame h f e =
    let n = none_holds 2 _ _ e in
    let t = none_holds 12 _ _ n.1 in
    record { length-right = eqb-true _ _ (not-false _ n.0); trailer_right = t.0; header = sound_header _ _ _ _ t.1 }

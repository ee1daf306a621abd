-- Space packet headers: what is written is read back, and what is read is written back.
-- Assumes nothing.
use mathlib.Core.Path.{◌≡◌, refl, sym, ap, subst, ◌∙◌}
use mathlib.Core.List.{List}
use mathlib.Core.Bool.{true}
use Prim.Native.Nat.{ℕ, ◌+◌, ◌^◌, ◌≤◌, ◌<◌}
use native.Mathlib.Nat.{mod-eq_of_lt, mod-one}
use native.Mathlib.Omega.{arith}
use lib.Dec.{eqb}
use lib.ListN.{length, take, take-append-drop}
use lib.Seq.{length-take-le}
use borrow.Author.Tests.{leb-true, le-leb, ltb-false, le-ltb, eqb-true, eq-eqb, not-false}
use Rattle.octets.specs.Basics.{AllOctets, number, number_at, octets, over, first}
use Rattle.words.specs.Fields.{read, write}
use Rattle.words.specs.declared.Place.{Place}
use Rattle.octets.proofs.Choices.{and_true, or_false, none_holds}
use Rattle.words.proofs.Fields.{field_within, placed_within, placed_read, placed_above, agree_on}
use Rattle.octets.proofs.Fronts.{all_take}
use Rattle.octets.proofs.Numbers.{run_lt, number_within, number_octets, octets_number}
use Rattle.octets.proofs.Written.{length-octets, length_over, over-take}
use Rattle.space.specs.declared.SpaceHeader.{SpaceHeader}
use Rattle.space.specs.Space.{version_at, type_at, secondary_at, apid_at, flags_at, count_at, length_at, space_fields, space_word, space_in_range, space_read_rows, space_reading, space_rows, space_writing}

-- ---- the law of fields, at a place in 48 bits

module _ (word : ℕ) (at : Place) (value : ℕ) (fits : word < 2 ^ 48) (inside : at.below + at.width ≤ 48) where
  stays_within : write at value word < 2 ^ 48
  stays_within = placed_within word at.below at.width value (omega arith) (omega arith) 48 fits inside

  reads_back : value < 2 ^ at.width → read at (write at value word) ≡ value
  reads_back h = placed_read word at.below at.width value (omega arith) (omega arith) ∙ mod-eq_of_lt h

  keeps_above : (other : Place) → at.below + at.width ≤ other.below → read other (write at value word) ≡ read other word
  keeps_above other h = placed_above word at.below at.width value (omega arith) (omega arith) other.below other.width h

-- ---- each field of a header within its width

pub record Ranged (h : SpaceHeader) : Type 0 where
  pub of_version : h.version ≤ 7
  pub of_type : h.packet_type ≤ 1
  pub of_secondary : h.secondary ≤ 1
  pub of_apid : h.apid ≤ 2047
  pub of_flags : h.flags ≤ 3
  pub of_count : h.count ≤ 16383
  pub of_length : h.length ≤ 65535

-- the version of a header in range
version-zero : (h : SpaceHeader) → space_in_range h ≡ true → h.version ≡ 0
unfolding space_in_range
version-zero h e = eqb-true h.version 0 (and_true _ _ e).0

ranged : (h : SpaceHeader) → space_in_range h ≡ true → Ranged h
unfolding space_in_range
ranged h e =
    let v : h.version ≡ 0 = version-zero h e in
    let least : h.version ≤ 7 = omega arith in
    let a = and_true (eqb h.version 0) _ e in
    let b = and_true _ _ a.1 in
    let c = and_true _ _ b.1 in
    let d = and_true _ _ c.1 in
    let f = and_true _ _ d.1 in
    let g = and_true _ _ f.1 in
    record {
      of_version = least;
      of_type = leb-true _ _ b.0;
      of_secondary = leb-true _ _ c.0;
      of_apid = leb-true _ _ d.0;
      of_flags = leb-true _ _ f.0;
      of_count = leb-true _ _ g.0;
      of_length = leb-true _ _ g.1;
    }

in_range : (h : SpaceHeader) → h.version ≡ 0 → Ranged h → space_in_range h ≡ true
unfolding space_in_range
in_range h v r =
    rw (
      eq-eqb h.version 0 v,
      le-leb h.packet_type 1 r.of_type,
      le-leb h.secondary 1 r.of_secondary,
      le-leb h.apid 2047 r.of_apid,
      le-leb h.flags 3 r.of_flags,
      le-leb h.count 16383 r.of_count,
      le-leb h.length 65535 r.of_length,
    )
    refl

module _ (h : SpaceHeader) where
  abbrev versioned : ℕ
  versioned = write version_at h.version 0

  abbrev typed : ℕ
  typed = write type_at h.packet_type versioned

  abbrev marked : ℕ
  marked = write secondary_at h.secondary typed

  abbrev named : ℕ
  named = write apid_at h.apid marked

  abbrev flagged : ℕ
  flagged = write flags_at h.flags named

  abbrev numbered : ℕ
  numbered = write count_at h.count flagged

  versioned_lt : versioned < 2 ^ 48
  versioned_lt = stays_within 0 version_at h.version (omega arith) (omega arith)

  typed_lt : typed < 2 ^ 48
  typed_lt = stays_within versioned type_at h.packet_type versioned_lt (omega arith)

  marked_lt : marked < 2 ^ 48
  marked_lt = stays_within typed secondary_at h.secondary typed_lt (omega arith)

  named_lt : named < 2 ^ 48
  named_lt = stays_within marked apid_at h.apid marked_lt (omega arith)

  flagged_lt : flagged < 2 ^ 48
  flagged_lt = stays_within named flags_at h.flags named_lt (omega arith)

  numbered_lt : numbered < 2 ^ 48
  numbered_lt = stays_within flagged count_at h.count flagged_lt (omega arith)

  word_lt : space_word h < 2 ^ 48
  unfolding space_word
  word_lt = stays_within numbered length_at h.length numbered_lt (omega arith)

  -- what stands above a field is not moved by it, nor by those below
  above-length : (o : Place) → 16 ≤ o.below → read o (space_word h) ≡ read o numbered
  unfolding space_word
  above-length o k = keeps_above numbered length_at h.length numbered_lt (omega arith) o k

  above_count : (o : Place) → 30 ≤ o.below → read o (space_word h) ≡ read o flagged
  above_count o k = above-length o (omega arith) ∙ keeps_above flagged count_at h.count flagged_lt (omega arith) o k

  above_flags : (o : Place) → 32 ≤ o.below → read o (space_word h) ≡ read o named
  above_flags o k = above_count o (omega arith) ∙ keeps_above named flags_at h.flags named_lt (omega arith) o k

  above_apid : (o : Place) → 43 ≤ o.below → read o (space_word h) ≡ read o marked
  above_apid o k = above_flags o (omega arith) ∙ keeps_above marked apid_at h.apid marked_lt (omega arith) o k

  above_secondary : (o : Place) → 44 ≤ o.below → read o (space_word h) ≡ read o typed
  above_secondary o k = above_apid o (omega arith) ∙ keeps_above typed secondary_at h.secondary typed_lt (omega arith) o k

  above_type : (o : Place) → 45 ≤ o.below → read o (space_word h) ≡ read o versioned
  above_type o k = above_secondary o (omega arith) ∙ keeps_above versioned type_at h.packet_type versioned_lt (omega arith) o k

  at_length : h.length < 2 ^ 16 → read length_at (space_word h) ≡ h.length
  unfolding space_word
  at_length k = reads_back numbered length_at h.length numbered_lt (omega arith) k

  -- a header in range is read back, field by field
  pub fields_word : Ranged h → space_fields (space_word h) ≡ h
  unfolding space_fields
  fields_word r =
      rw (
        above_type version_at (omega arith) ∙ reads_back 0 version_at h.version (omega arith) (omega arith) (omega arith),
        above_secondary type_at (omega arith) ∙ reads_back versioned type_at h.packet_type versioned_lt (omega arith) (omega arith),
        above_apid secondary_at (omega arith) ∙ reads_back typed secondary_at h.secondary typed_lt (omega arith) (omega arith),
        above_flags apid_at (omega arith) ∙ reads_back marked apid_at h.apid marked_lt (omega arith) (omega arith),
        above_count flags_at (omega arith) ∙ reads_back named flags_at h.flags named_lt (omega arith) (omega arith),
        above-length count_at (omega arith) ∙ reads_back flagged count_at h.count flagged_lt (omega arith) (omega arith),
        at_length (omega arith),
      )
      refl

-- the fields of any word are in range
fields_ranged : (word : ℕ) → Ranged (space_fields word)
unfolding space_fields
fields_ranged word = record {
  of_version = omega (arith, field_within 3 word 45 3 (omega arith));
  of_type = omega (arith, field_within 1 word 44 1 (omega arith));
  of_secondary = omega (arith, field_within 1 word 43 1 (omega arith));
  of_apid = omega (arith, field_within 11 word 32 11 (omega arith));
  of_flags = omega (arith, field_within 2 word 30 2 (omega arith));
  of_count = omega (arith, field_within 14 word 16 14 (omega arith));
  of_length = omega (arith, field_within 16 word 0 16 (omega arith));
}

-- a word is put together again from its fields
pub word_fields : (word : ℕ) → word < 2 ^ 48 → space_word (space_fields word) ≡ word
unfolding space_fields
word_fields word k =
    let again : ℕ = space_word (space_fields word) in
    let e : space_fields again ≡ space_fields word = fields_word (space_fields word) (fields_ranged word) in
    let a = agree_on again word 0 16 (mod-one again ∙ sym (mod-one word)) (ap (λ (h : SpaceHeader). h.length) e) in
    let b = agree_on again word 16 14 a (ap (λ (h : SpaceHeader). h.count) e) in
    let c = agree_on again word 30 2 b (ap (λ (h : SpaceHeader). h.flags) e) in
    let d = agree_on again word 32 11 c (ap (λ (h : SpaceHeader). h.apid) e) in
    let f = agree_on again word 43 1 d (ap (λ (h : SpaceHeader). h.secondary) e) in
    let g = agree_on again word 44 1 f (ap (λ (h : SpaceHeader). h.packet_type) e) in
    let whole = agree_on again word 45 3 g (ap (λ (h : SpaceHeader). h.version) e) in
    sym (mod-eq_of_lt (word_lt (space_fields word))) ∙ whole ∙ mod-eq_of_lt k

-- ---- the calls

-- what holds where a header is not refused
pub space_admitted : (h : SpaceHeader) (room : ℕ) → first (space_rows h room) ≡ 0 → (space_in_range h ≡ true) × (6 ≤ room)
unfolding space_rows
space_admitted h room e =
    let a = none_holds 0 _ _ e in
    (not-false _ a.0, ltb-false room 6 (none_holds 1 _ _ a.1).0)

-- what holds where octets are not refused
pub space_accepted : (os : List ℕ) → first (space_read_rows os) ≡ 0 → (6 ≤ length os) × (read version_at (number_at 6 0 os) ≡ 0)
unfolding space_read_rows
space_accepted os e =
    let a = or_false _ _ (none_holds 7 _ _ e).0 in
    (ltb-false (length os) 6 a.0, eqb-true _ 0 (not-false _ a.1))

-- and it is all that is asked of them
pub space_accepts : (os : List ℕ) → 6 ≤ length os → read version_at (number_at 6 0 os) ≡ 0 → first (space_read_rows os) ≡ 0
unfolding space_read_rows first
space_accepts os k v = rw (le-ltb (length os) 6 k, eq-eqb (read version_at (number_at 6 0 os)) 0 v) refl

-- a header that is written is read back
pub space_written_read : (h : SpaceHeader) (output : List ℕ) → first (space_rows h (length output)) ≡ 0
    → space_reading (space_writing h output).output ≡ record { accepted = true; refusal = 0; header = h }
unfolding space_writing space_reading space_fields
space_written_read h output e =
    let k = space_admitted h (length output) e in
    let os : List ℕ = octets 6 (space_word h) in
    let n : length os ≡ 6 = length-octets 6 (space_word h) in
    let room : length (over output 0 os) ≡ length output = length_over output 0 os (omega arith) in
    let z : 0 + length os ≡ 6 = omega arith in
    let front : take 6 (over output 0 os) ≡ os =
    subst (λ (m : ℕ). take m (over output 0 os) ≡ os) z (over-take output 0 os (omega arith)) in
    let word : number_at 6 0 (over output 0 os) ≡ space_word h =
    number_within 6 0 (over output 0 os) (omega arith) ∙ ap number front ∙ number_octets 6 (space_word h) (word_lt h) in
    let back : space_fields (space_word h) ≡ h = fields_word h (ranged h k.0) in
    let version : read version_at (number_at 6 0 (over output 0 os)) ≡ 0 =
    ap (read version_at) word ∙ ap (λ (h : SpaceHeader). h.version) back ∙ version-zero h k.0 in
    rw (e, space_accepts (over output 0 os) (omega arith) version, word, back) refl

-- six octets that are read are written back
pub space_read_written : (os : List ℕ) → AllOctets os → first (space_read_rows os) ≡ 0
    → space_writing (space_reading os).header os ≡ record { refusal = 0; output = os }
unfolding space_writing space_reading space_rows first over space_fields
space_read_written os o accepted =
    let a = space_accepted os accepted in
    let k : 6 ≤ length os = a.0 in
    let word : ℕ = number_at 6 0 os in
    let n : length (take 6 os) ≡ 6 = length-take-le 6 os k in
    let e : word ≡ number (take 6 os) = number_within 6 0 os k in
    let below : word < 2 ^ 48 = subst (λ (m : ℕ). m < 2 ^ 48) (sym e) (run_lt os 0 6 o k) in
    let same : octets 6 (space_word (space_fields word)) ≡ take 6 os =
    ap (octets 6) (word_fields word below ∙ e)
    ∙ subst (λ (m : ℕ). octets m (number (take 6 os)) ≡ take 6 os) n (octets_number (take 6 os) (all_take 6 os o)) in
    let six : 0 + length (take 6 os) ≡ 6 = omega arith in
    rw (accepted, le-ltb (length os) 6 k, in_range (space_fields word) a.1 (fields_ranged word), same, six, take-append-drop 6 os) refl

use Rattle.std.proofs.Common.{◌≡◌, arith, refl, ℕ, List, length, Bool, true, false, not, ltb, eqb, Ok, Err}
use Rattle.octets.specs.Basics.{pick, or, number_at, first}
use Rattle.octets.specs.declared.refusals.Refusal.{Refusal}
use Rattle.words.specs.Fields.{read}
use Rattle.space.specs.Space.{version_at, type_at, secondary_at, apid_at, flags_at, count_at, length_at, space_fields, space_read_rows, space_reading, space_reads}
use Rattle.space.proofs.read_space.Goals as goal

-- the table's row, as it is tested
tested : (os : List ℕ) {word version : ℕ} (t : Bool) → word ≡ number_at 6 0 os → version ≡ read version_at word
    → or (ltb (length os) 6) (not (eqb version 0)) ≡ t → first (space_read_rows os) ≡ pick t 8 0
unfolding space_read_rows first
tested os t w v e = rw (← w, ← v, e) refl

refuses : (os : List ℕ) → first (space_read_rows os) ≡ 8 → space_reads (Err Refusal.Packet) ≡ space_reading os
unfolding space_reading space_reads
refuses os e = rw e refl

pub returns-then-start-version : goal.returns-then-start-version
returns-then-start-version c =
    let os : List ℕ = c.args.start.now in
    refuses os (tested os true (c.number-word.ensures.whole (omega arith)) c.narrow-version.ensures c.if-start-version.true)

-- the fields of a word, one by one
fields : (os : List ℕ) {word version type secondary apid flags count size : ℕ} → first (space_read_rows os) ≡ 0 → word ≡ number_at 6 0 os
    → version ≡ read version_at word → type ≡ read type_at word → secondary ≡ read secondary_at word → apid ≡ read apid_at word
    → flags ≡ read flags_at word → count ≡ read count_at word → size ≡ read length_at word
    → space_reads (Ok record { version = version; packet_type = type; secondary = secondary; apid = apid; flags = flags; count = count; length = size })
    ≡ space_reading os
unfolding space_reading space_reads space_fields
fields os e w v t s a f n l = rw e (cc)

pub returns : goal.returns
returns c =
    let os : List ℕ = c.args.start.now in
    fields os (tested os false (c.number-word.ensures.whole (omega arith)) c.narrow-version.ensures c.if-start-version.false) (c.number-word.ensures.whole (omega arith))
    c.narrow-version.ensures c.narrow.ensures c.narrow-2.ensures c.wide.ensures
    c.narrow-3.ensures c.wide-2.ensures c.wide-3.ensures

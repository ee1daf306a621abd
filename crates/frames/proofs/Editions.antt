-- Both headers octet by octet; and two editions that read and write the same.
-- Assumes nothing.
use Rattle.std.proofs.Common.{◌≡◌, ℕ, ◌+◌, ◌*◌, ◌/◌, ◌%◌, ◌^◌, ◌<◌, ◌≤◌, true, eqb, List, [], ◌∷◌, ◌++◌, sym, refl, ap, ◌∙◌, subst, ap₂, lt_of_lt_of_le, mod-lt, mod-eq_of_lt, add_comm, div-add-mod', arith, pow_mono, shr-shr, shr_lt, eqb-true}
use lib.Arith.{lt-one}
use lib.Pow.{mod-pow-add}
use borrow.Author.Tests.{eqb-false}
use Rattle.octets.specs.Basics.{number, number_from, octets}
use Rattle.octets.proofs.Tests.{test}
use Rattle.octets.proofs.Numbers.{octets_again}
use Rattle.words.specs.Fields.{field, read}
use Rattle.words.proofs.Fields.{field_rest}
use Rattle.frames.specs.Edition.{own_width, cycle_place, usage, cycle_width, count_in, signalling}
use Rattle.frames.specs.Link.{link_in_range, primary, zone_head, header_rows, written_rows, count_width, head_word, headers, next_count}
use Rattle.frames.specs.Frame.{in_range, heading_rows, frame_rows, heading, head, head_rows}
use Rattle.frames.specs.BitFrame.{bits_in_range, bit_heading_rows, bit_frame_rows, bit_heading, bit_head, bit_head_rows}
use Rattle.frames.specs.Editions.{link_by, AsOctets, Wheels, SameOctets, Editions}
use Rattle.frames.specs.declared.Edition.TheVariants.{CycleUnused}
use Rattle.frames.specs.declared.Link.{Link}
use Rattle.frames.proofs.Settled.{linked}
use Rattle.frames.proofs.Signals.{two_fields, same_signals, usage_small, cycle_narrow, unused_narrow, used_wide}
use Rattle.frames.proofs.ByOctets.{refused_by, on_wheel}
use Rattle.frames.proofs.Taken.{taken}
use Rattle.frames.proofs.Wheel.{after_missing, missing_lt}
use Rattle.frames.proofs.ReadBack.{version_written, spacecraft_written, channel_written, own_written, replay_written, signal_fields, cycle_written, head_word_lt}

-- ---- the octets

-- the low 24 bits of a number as three octets
count_octets : (c : ℕ) → c / 65536 % 256 * 65536 + c / 256 % 256 * 256 + c % 256 ≡ c % 2 ^ own_width
count_octets c =
    let low : c % 2 ^ own_width ≡ c / 256 % 65536 * 256 + c % 256 = mod-pow-add c 16 8 in
    let high : c / 256 % 65536 ≡ c / 65536 % 256 * 256 + c / 256 % 256 = mod-pow-add (c / 256) 8 8 ∙ rw (shr-shr c 8 8) refl in
    omega arith

module _ (l : Link) (c r z : ℕ) (range : link_in_range l ≡ true) (fits : c < 2 ^ count_width l) (flag : r < 2) (short : z < 65536) where
  abbrev word : ℕ
  word = head_word l c r

  -- what the count has above its own octets
  abbrev top : ℕ
  top = c / 2 ^ own_width

  top_lt : top < 2 ^ cycle_width l.edition
  unfolding count_width
  top_lt = shr_lt (cycle_width l.edition) own_width (subst (λ (k : ℕ). c < 2 ^ k) (add_comm own_width (cycle_width l.edition)) fits)

  top_small : top < 16
  top_small = lt_of_lt_of_le top_lt (pow_mono (cycle_narrow l.edition))

  -- the cycle's four bits are that, with either usage
  cycle : read cycle_place word ≡ top
  cycle =
      let e = l.edition in
      test (eqb (usage e) 0)
      (λ t.
      let none : usage e ≡ 0 = eqb-true (usage e) 0 t in
      (signal_fields l c r).cycle_clear none ∙ sym (lt-one (subst (λ (k : ℕ). top < 2 ^ k) (unused_narrow e none) top_lt)))
      (λ t. subst (λ (k : ℕ). field word 0 k ≡ top % 2 ^ k) (used_wide e (eqb-false (usage e) 0 t)) (cycle_written l c r) ∙ mod-eq_of_lt top_small)

  abbrev six : List ℕ
  six = (64 + l.spacecraft / 4) ∷ (l.spacecraft % 4 * 64 + l.channel) ∷ (c / 65536 % 256) ∷ (c / 256 % 256) ∷ (c % 256) ∷ (r * 128 + usage l.edition * 64 + top) ∷ []

  -- the header's number, field by field
  by_fields : word ≡ 2 ^ 46 + l.spacecraft * 2 ^ 38 + l.channel * 2 ^ 32 + c % 2 ^ own_width * 2 ^ 8 + (r * 128 + usage l.edition * 64 + top)
  by_fields =
      let bounds = linked l range in
      let signal = signal_fields l c r in
      let all : field word 0 48 ≡ word = field_rest 48 word 0 48 (head_word_lt l c r) (omega arith) ∙ omega arith in
      let version : field word 0 48 ≡ field word 46 2 * 2 ^ 46 + field word 0 46 = two_fields word 0 2 46 in
      let spacecraft : field word 0 46 ≡ field word 38 8 * 2 ^ 38 + field word 0 38 = two_fields word 0 8 38 in
      let channel : field word 0 38 ≡ field word 32 6 * 2 ^ 32 + field word 0 32 = two_fields word 0 6 32 in
      let own : field word 0 32 ≡ field word 8 own_width * 2 ^ 8 + field word 0 8 = two_fields word 0 own_width 8 in
      let replay : field word 0 8 ≡ field word 7 1 * 2 ^ 7 + field word 0 7 = two_fields word 0 1 7 in
      let used : field word 0 7 ≡ field word 6 1 * 2 ^ 6 + field word 0 6 = two_fields word 0 1 6 in
      let spare : field word 0 6 ≡ field word 4 2 * 2 ^ 4 + field word 0 4 = two_fields word 0 2 4 in
      omega (
        arith,
        version_written l c r,
        spacecraft_written l c r bounds.spacecraft_most,
        channel_written l c r bounds.channel_most,
        own_written l c r,
        replay_written l c r flag,
        signal.usage_right,
        signal.spare_clear,
        cycle,
      )

  -- so it is that of these octets
  six_number : number six ≡ word
  unfolding number number_from
  six_number = sym (by_fields ∙ omega (arith, count_octets c, div-add-mod' l.spacecraft 4))

  six_octets : octets 6 word ≡ six
  six_octets =
      let bounds = linked l range in
      let used : usage l.edition ≤ 1 = usage_small l.edition in
      ap (octets 6) (sym six_number)
      ∙ octets_again six 0 6 (
        omega (arith, bounds.spacecraft_most),
        (omega (arith, bounds.channel_most), (mod-lt (c / 65536) (omega arith), (mod-lt (c / 256) (omega arith), (mod-lt c (omega arith), (omega (arith, top_small), tt))))),
      )
      (omega arith)

  two_octets : octets 2 z ≡ (z / 256) ∷ (z % 256) ∷ []
  unfolding number number_from
  two_octets = ap (octets 2) (sym both) ∙ octets_again ((z / 256) ∷ (z % 256) ∷ []) 0 2 (omega arith, (mod-lt z (omega arith), tt)) (omega arith)
    where
      both : number ((z / 256) ∷ (z % 256) ∷ []) ≡ z
      both = omega (arith, div-add-mod' z 256)

  octet_by_octet : headers l c r z ≡ six ++ ((z / 256) ∷ (z % 256) ∷ [])
  unfolding headers
  octet_by_octet = ap₂ ◌++◌ six_octets two_octets

as_octets : AsOctets
as_octets = record { written = octet_by_octet }

-- ---- the same octets

same_octets : SameOctets
unfolding usage cycle_width link_in_range in_range bits_in_range primary zone_head count_width heading heading_rows frame_rows header_rows count_in head head_rows written_rows headers head_word signalling bit_heading bit_heading_rows bit_frame_rows bit_head bit_head_rows
same_octets = record {
  wheel = λ l. refl;
  read = λ s f. rw (same_signals (primary (link_by CycleUnused s.link) f)) refl;
  written = λ s c p. refl;
  unwritten = λ s c p buffer. refl;
  bits_read = λ s f. rw (same_signals (primary (link_by CycleUnused s.link) f)) refl;
  bits_written = λ s c p. refl;
  bits_unwritten = λ s c p buffer. refl;
}

wheels : Wheels
unfolding usage cycle_width count_width next_count
wheels = record {
  former = λ l. refl;
  unused = λ l. refl;
  used = λ l. refl;
  next = λ width c. refl;
  missing_before = after_missing;
  fewer = missing_lt;
}

pub editions : Editions
editions = record { as_octets = as_octets; taken = taken; refused_by = refused_by; on_wheel = on_wheel; wheels = wheels; same_octets = same_octets }

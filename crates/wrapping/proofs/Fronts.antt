-- An encapsulation header that is written says what was put into it.
-- Assumes nothing.
use mathlib.Core.Path.{◌≡◌, sym, ap, ◌∙◌}
use mathlib.Core.List.{List, ◌++◌, append_assoc}
use Prim.Native.Nat.{ℕ, ◌+◌, ◌-◌, ◌^◌, ◌≤◌, ◌<◌}
use native.Mathlib.Nat.{mod-eq_of_lt}
use native.Mathlib.Omega.{arith}
use lib.ListN.{length, take, drop, get_or, length-append, get_or-append}
use lib.Seq.{length-take-le, get_or-take, take_at, drop_at}
use Rattle.octets.specs.Basics.{number, number_from, number_at, octets, over, laid, laid_part}
use Rattle.words.specs.Fields.{field, placed}
use Rattle.words.proofs.Fields.{placed_lt, placed_within, placed_read, placed_above}
use Rattle.octets.proofs.Numbers.{number_within, number_octets}
use Rattle.octets.proofs.Written.{length-octets, laid_within, part_within, length_over, over_over}
use Rattle.packets.specs.Packet.{whole, look, counted, header_length, packet_version, protocol_of, length_of_length}
use Rattle.wrapping.specs.Front.{first_octet, second_octet, opening, half, start, front}
use Rattle.packets.proofs.Sizes.{header_positive, header_most, header_extended, two_halves}
use Rattle.packets.proofs.Looks.{look_encapsulation, half_read, counted_whole}

-- ---- the fields of the first octets, each by the law of fields

module _ (protocol code : ℕ) where
  abbrev versioned : ℕ
  versioned = placed 0 5 3 7

  abbrev addressed : ℕ
  addressed = placed versioned 2 3 protocol

  versioned_lt : versioned < 2 ^ 64
  versioned_lt = placed_lt 0 5 3 7 (omega arith) (omega arith)

  addressed_lt : addressed < 2 ^ 64
  addressed_lt = placed_lt versioned 2 3 protocol versioned_lt (omega arith)

  pub first_octet_lt : first_octet protocol code < 256
  unfolding first_octet
  first_octet_lt =
      placed_within addressed 0 2 code addressed_lt (omega arith) 8
      (placed_within versioned 2 3 protocol versioned_lt (omega arith) 8
      (placed_within 0 5 3 7 (omega arith) (omega arith) 8 (omega arith) (omega arith)) (omega arith)) (omega arith)

  pub first_version : packet_version (first_octet protocol code) ≡ 7
  unfolding first_octet
  first_version =
      placed_above addressed 0 2 code addressed_lt (omega arith) 5 3 (omega arith)
      ∙ placed_above versioned 2 3 protocol versioned_lt (omega arith) 5 3 (omega arith)
      ∙ placed_read 0 5 3 7 (omega arith) (omega arith)

  pub first_protocol : protocol ≤ 7 → protocol_of (first_octet protocol code) ≡ protocol
  unfolding first_octet
  first_protocol h =
      placed_above addressed 0 2 code addressed_lt (omega arith) 2 3 (omega arith)
      ∙ placed_read versioned 2 3 protocol versioned_lt (omega arith)
      ∙ mod-eq_of_lt (omega arith)

  pub first_code : code ≤ 3 → length_of_length (first_octet protocol code) ≡ code
  unfolding first_octet
  first_code h = placed_read addressed 0 2 code addressed_lt (omega arith) ∙ mod-eq_of_lt (omega arith)

pub second_octet_lt : (extension : ℕ) → second_octet extension < 256
unfolding second_octet
second_octet_lt extension = placed_within 0 0 4 extension (omega arith) (omega arith) 8 (omega arith) (omega arith)

pub second_extension : (extension : ℕ) → extension ≤ 15 → field (second_octet extension) 0 4 ≡ extension
unfolding second_octet
second_extension extension h = placed_read 0 0 4 extension (omega arith) (omega arith) ∙ mod-eq_of_lt (omega arith)

-- ---- the header over a buffer

module _ (protocol extension code total : ℕ) where
  begun : List ℕ
  begun = take (start code) (opening protocol extension code)

  length-begun : length begun ≡ start code
  unfolding begun
  length-begun = length-take-le (start code) (opening protocol extension code) (omega (arith, header_most code))

  pub length_front : length (front protocol extension code total) ≡ header_length code
  unfolding front begun
  length_front = length-append begun (octets (half code) total) ∙ omega (arith, length-begun, length-octets (half code) total)

  -- what stands before its length field, and then that
  pub front_written : (d : List ℕ) (at : ℕ) → at + header_length code ≤ length d
      → laid (laid_part d at 0 (start code) (opening protocol extension code)) (at + start code) (octets (half code) total)
      ≡ over d at (front protocol extension code total)
  unfolding front begun
  front_written d at h =
      let n : start code - 0 ≡ start code = omega arith in
      let first : laid_part d at 0 (start code) (opening protocol extension code) ≡ over d at begun =
      part_within d at 0 (start code) (opening protocol extension code) (omega arith) (omega (arith, header_most code)) (omega arith)
      ∙ ap (λ (k : ℕ). over d at (take k (opening protocol extension code))) n in
      let room : length (over d at begun) ≡ length d = length_over d at begun (omega (arith, length-begun)) in
      ap (λ (b : List ℕ). laid b (at + start code) (octets (half code) total)) first
      ∙ laid_within (over d at begun) (at + start code) (octets (half code) total) (omega (arith, room, length-octets (half code) total))
      ∙ ap (λ (k : ℕ). over (over d at begun) (at + k) (octets (half code) total)) (sym length-begun)
      ∙ over_over d at begun (octets (half code) total) (omega (arith, length-begun))

-- ---- the header read back, whatever stands behind it

module _ (protocol extension code total : ℕ) (rest : List ℕ) where
  abbrev packet : List ℕ
  packet = front protocol extension code total ++ rest

  opened : packet ≡ begun protocol extension code total ++ (octets (half code) total ++ rest)
  unfolding front begun
  opened = append_assoc (begun protocol extension code total) (octets (half code) total) rest

  -- the octets before the length field
  at_start : (i : ℕ) → i < start code → get_or packet i 0 ≡ get_or (opening protocol extension code) i 0
  unfolding begun
  at_start i h =
      ap (λ (os : List ℕ). get_or os i 0) opened
      ∙ get_or-append (begun protocol extension code total) _ 0 i (omega (arith, length-begun protocol extension code total))
      ∙ get_or-take (start code) (opening protocol extension code) i 0 h

  pub front_first : get_or packet 0 0 ≡ first_octet protocol code
  front_first = at_start 0 (omega (arith, header_positive code))

  pub front_second : 2 ≤ code → get_or packet 1 0 ≡ second_octet extension
  front_second h = at_start 1 (omega (arith, header_extended code h))

  pub front_longer : header_length code ≤ length packet
  front_longer = omega (arith, length-append (front protocol extension code total) rest, length_front protocol extension code total)

  -- the length field
  pub front_total : 1 ≤ code → total < 256 ^ half code → number_at (half code) (half code) packet ≡ total
  front_total h k =
      let same : half code + half code ≡ header_length code = two_halves code h in
      let behind : List ℕ = octets (half code) total ++ rest in
      number_within (half code) (half code) packet (omega (arith, front_longer))
      ∙ ap (λ (os : List ℕ). number (take (half code) (drop (half code) os))) opened
      ∙ ap (λ (os : List ℕ). number (take (half code) os))
      (drop_at (begun protocol extension code total) behind (half code) (omega (arith, length-begun protocol extension code total)))
      ∙ ap number (take_at (octets (half code) total) rest (half code) (length-octets (half code) total))
      ∙ number_octets (half code) total k

  -- so the header says what was put into it
  pub front_look : (limit : ℕ) → 1 ≤ code → code ≤ 3 → header_length code ≤ total → total ≤ limit → total < 256 ^ half code
      → look limit packet ≡ whole total
  front_look limit least most h k m =
      let longer : header_length code ≤ length packet = front_longer in
      let some : length packet ≡ 0 → ⊥ = λ z. let p = header_positive code in absurd (omega arith) in
      let version : packet_version (get_or packet 0 0) ≡ 7 = ap packet_version front_first ∙ first_version protocol code in
      let length-field : length_of_length (get_or packet 0 0) ≡ code = ap length_of_length front_first ∙ first_code protocol code most in
      let not_none : length_of_length (get_or packet 0 0) ≡ 0 → ⊥ = λ z. absurd (omega arith) in
      look_encapsulation limit packet some version
      ∙ half_read limit packet (protocol_of (get_or packet 0 0)) (length_of_length (get_or packet 0 0)) not_none
      ∙ ap (λ (n : ℕ). counted limit (length packet) (header_length n) (number_at (half n) (half n) packet)) length-field
      ∙ ap (counted limit (length packet) (header_length code)) (front_total least m)
      ∙ counted_whole limit (length packet) (header_length code) total longer h k

-- the reserved field of the longest header is 0
pub front_reserved : (protocol extension total : ℕ) (rest : List ℕ) → number_at 2 2 (front protocol extension 3 total ++ rest) ≡ 0
unfolding front header_length number number_from
front_reserved protocol extension total rest =
    number_within 2 2 (front protocol extension 3 total ++ rest) (omega (arith, front_longer protocol extension 3 total rest))

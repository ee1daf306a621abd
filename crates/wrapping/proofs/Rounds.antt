-- A data unit that is wrapped is well formed, has the smallest header, and is unwrapped again.
-- Assumes nothing.
use mathlib.Core.Path.{◌≡◌, refl, sym, ap, subst, ◌∙◌}
use mathlib.Core.Logic.{⊎_elim}
use mathlib.Core.List.{List, ◌++◌}
use mathlib.Core.Bool.{Bool, true, false, not}
use Prim.Native.Nat.{ℕ, zero, suc, ◌+◌, ◌-◌, ◌^◌, ◌≤◌, ◌<◌}
use native.Mathlib.Omega.{arith}
use lib.ListN.{length, get_or, length-append}
use lib.Seq.{drop_at, take-length}
use lib.Dec.{leb, eqb}
use borrow.Author.Tests.{leb-true, leb-false, le-leb, lt-leb, eqb-true, eqb-false}
use Rattle.octets.specs.Basics.{pick, and, or, number_at, part_of, over, first}
use Rattle.octets.proofs.Choices.{split, and_true, or_true}
use Rattle.packets.specs.Packet.{limit_in_range, WellFormed, look, whole, packet_version, protocol_of, length_of_length, header_length}
use Rattle.wrapping.specs.Front.{first_octet, front}
use Rattle.wrapping.specs.Wrap.{length_of_length_for, wrapped_total, wrapped, wrap_in_range, wrap_rows, Suits, RoundTrip}
use Rattle.packets.specs.Unwrap.{its_length_of_length, extension_of, reserved_of, unwrap_rows, unwrapping}
use Rattle.packets.proofs.Sizes.{header_most}
use Rattle.packets.proofs.Readings.{formed_test}
use Rattle.wrapping.proofs.Fronts.{first_version, first_protocol, first_code, second_extension, length_front, front_first, front_second, front_look, front_reserved}
use Rattle.wrapping.proofs.Wraps.{Admitted, admitted, wrapping_done}
use Rattle.packets.proofs.Unwraps.{unwrapping_done}

-- ---- the smallest header

-- which header is chosen, and why
data Chosen (protocol n : ℕ) : ℕ → Type 0 where
  two : n + 2 ≤ 255 → (protocol ≡ 6 → ⊥) → Chosen protocol n 1
  four : n + 4 ≤ 65535 → (n + 2 ≤ 255 → protocol ≡ 6) → Chosen protocol n 2
  eight : 65535 < n + 4 → Chosen protocol n 3

chosen : (protocol n : ℕ) → Chosen protocol n (length_of_length_for protocol n)
unfolding length_of_length_for
chosen protocol n = go (leb (n + 2) 255) (eqb protocol 6) (leb (n + 4) 65535) refl refl refl
  where
    go : (a b c : Bool) → leb (n + 2) 255 ≡ a → eqb protocol 6 ≡ b → leb (n + 4) 65535 ≡ c → Chosen protocol n (pick (and a (not b)) 1 (pick c 2 3))
    go true true true x y z = four (leb-true _ _ z) (λ h. eqb-true _ _ y)
    go true true false x y z = eight (leb-false _ _ z)
    go true false c x y z = two (leb-true _ _ x) (eqb-false _ _ y)
    go false b true x y z = four (leb-true _ _ z) (λ h. absurd (omega (arith, leb-false (n + 2) 255 x)))
    go false b false x y z = eight (leb-false _ _ z)

-- it suits the unit
pub code_suits : (protocol n : ℕ) → n + 8 < 256 ^ 4 → Suits protocol n (length_of_length_for protocol n)
unfolding header_length
code_suits protocol n h = go (chosen protocol n)
  where
    go : {code : ℕ} → Chosen protocol n code → Suits protocol n code
    go (two k other) = record { least = omega arith; most = omega arith; stated = omega arith; extended = λ e. absurd (other e) }
    go (four k six) = record { least = omega arith; most = omega arith; stated = omega arith; extended = λ e. omega arith }
    go (eight k) = record { least = omega arith; most = omega arith; stated = omega arith; extended = λ e. omega arith }

-- and no smaller one does
pub code_smallest : (protocol n code : ℕ) → Suits protocol n code → header_length (length_of_length_for protocol n) ≤ header_length code
unfolding header_length
code_smallest protocol n code s = go (chosen protocol n) code s
  where
    go : {k : ℕ} → Chosen protocol n k → (code : ℕ) → Suits protocol n code → header_length k ≤ header_length code
    go c zero s = absurd (omega arith)
    go (two k other) (suc zero) s = omega arith
    go (two k other) (suc (suc zero)) s = omega arith
    go (two k other) (suc (suc (suc m))) s = omega arith
    go (four k six) (suc zero) s = absurd (let e : protocol ≡ 6 = six (omega arith) in omega (arith, s.extended e))
    go (four k six) (suc (suc zero)) s = omega arith
    go (four k six) (suc (suc (suc m))) s = omega arith
    go (eight k) (suc zero) s = absurd (omega arith)
    go (eight k) (suc (suc zero)) s = absurd (omega arith)
    go (eight k) (suc (suc (suc m))) s = omega arith

-- ---- what a call that is not refused is given

record Settings (limit protocol extension : ℕ) : Type 0 where
  limited : limit_in_range limit ≡ true
  most_limit : limit ≤ 65542
  most_protocol : protocol ≤ 7
  most_extension : extension ≤ 15
  used : or (eqb extension 0) (eqb protocol 6) ≡ true

settings : (limit protocol extension : ℕ) → wrap_in_range limit protocol extension ≡ true → Settings limit protocol extension
unfolding wrap_in_range limit_in_range
settings limit protocol extension e =
    let a = and_true _ _ e in
    let b = and_true _ _ (and_true (leb 1 protocol) _ a.1).1 in
    let c = and_true _ _ b.1 in
    record {
      limited = a.0;
      most_limit = leb-true _ _ (and_true (leb 7 limit) (leb limit 65542) a.0).1;
      most_protocol = leb-true _ _ b.0;
      most_extension = leb-true _ _ c.0;
      used = c.1;
    }

-- a rightly used extension is not refused
fair : (none six : Bool) → or none six ≡ true → or (and (not none) (not six)) false ≡ false
fair true six e = refl
fair false true e = refl
fair false false e = sym e

module _ (limit protocol extension : ℕ) (unit : List ℕ) (s : Settings limit protocol extension)
    (within : wrapped_total protocol (length unit) ≤ limit) where
  abbrev code : ℕ
  code = length_of_length_for protocol (length unit)

  abbrev total : ℕ
  total = wrapped_total protocol (length unit)

  packet : List ℕ
  packet = wrapped protocol extension unit

  suits : Suits protocol (length unit) code
  unfolding wrapped_total
  suits = code_suits protocol (length unit) (omega (arith, header_most code))

  says : look limit packet ≡ whole total
  unfolding packet wrapped wrapped_total
  says = front_look protocol extension code total unit limit suits.least suits.most (omega arith) within suits.stated

  packet-length : length packet ≡ total
  unfolding packet wrapped wrapped_total
  packet-length =
      length-append (front protocol extension code total) unit ∙ omega (arith, length_front protocol extension code total)

  packet_formed : WellFormed limit packet
  packet_formed = says ∙ ap whole (sym packet-length)

  its_first : get_or packet 0 0 ≡ first_octet protocol code
  unfolding packet wrapped
  its_first = front_first protocol extension code total unit

  its_protocol : protocol_of (get_or packet 0 0) ≡ protocol
  its_protocol = ap protocol_of its_first ∙ first_protocol protocol code s.most_protocol

  its_length : its_length_of_length packet ≡ code
  its_length = ap length_of_length its_first ∙ first_code protocol code suits.most

  its_extension : extension_of packet ≡ extension
  unfolding extension_of packet wrapped
  its_extension = split 2 code with_one without
    where
      with_one : 2 ≤ code → extension_of packet ≡ extension
      with_one h =
          rw (its_length, le-leb 2 code h, front_second protocol extension code total unit h) (second_extension extension s.most_extension)

      without : code < 2 → extension_of packet ≡ extension
      without h =
          rw (its_length, lt-leb 2 code h)
          (⊎_elim (λ z. sym (eqb-true extension 0 z)) (λ e. absurd (let k = suits.extended (eqb-true protocol 6 e) in omega arith))
          (or_true (eqb extension 0) (eqb protocol 6) s.used))

  its_reserved : reserved_of packet ≡ 0
  unfolding reserved_of packet wrapped
  its_reserved = split 3 code longest shorter
    where
      longest : 3 ≤ code → reserved_of packet ≡ 0
      longest h =
          let three : code ≡ 3 = omega (arith, suits.most) in
          rw (its_length, le-leb 3 code h)
          (subst (λ (k : ℕ). number_at 2 2 (front protocol extension k total ++ unit) ≡ 0) (sym three) (front_reserved protocol extension total unit))

      shorter : code < 3 → reserved_of packet ≡ 0
      shorter h = rw (its_length, lt-leb 3 code h) refl

  no_row : first (unwrap_rows limit packet) ≡ 0
  unfolding unwrap_rows first
  no_row =
      let version : packet_version (get_or packet 0 0) ≡ 7 = ap packet_version its_first ∙ first_version protocol code in
      rw (
        s.limited,
        formed_test limit packet packet_formed,
        version,
        its_extension,
        its_protocol,
        its_reserved,
        fair (eqb extension 0) (eqb protocol 6) s.used,
      )
      refl

  packet_unwrapped : unwrapping limit packet
      ≡ record { accepted = true; refusal = 0; damage = 0; protocol = protocol; extension = extension; start = header_length code; size = length unit }
  unfolding wrapped_total
  packet_unwrapped =
      let size : length packet - header_length code ≡ length unit = omega (arith, packet-length) in
      unwrapping_done limit packet no_row ∙ rw (its_protocol, its_extension, its_length, size) refl

  packet_unit : part_of packet (header_length code) (length unit) ≡ unit
  unfolding part_of packet wrapped wrapped_total
  packet_unit =
      rw (
        le-leb (header_length code + length unit) (length packet) (omega (arith, packet-length)),
        drop_at (front protocol extension code total) unit (header_length code) (length_front protocol extension code total),
        take-length unit,
      )
      refl

-- a call of wrapping that is not refused, whole
pub round_trip : (limit protocol extension : ℕ) (unit output : List ℕ)
    → first (wrap_rows limit protocol extension (length unit) (wrapped_total protocol (length unit)) (length output)) ≡ 0
    → RoundTrip limit protocol extension unit output
unfolding packet over
round_trip limit protocol extension unit output e =
    let total : ℕ = wrapped_total protocol (length unit) in
    let a : Admitted limit protocol extension (length unit) total (length output) =
    admitted limit protocol extension (length unit) total (length output) e in
    let s : Settings limit protocol extension = settings limit protocol extension a.ranged in
    let long : length (wrapped protocol extension unit) ≡ total = packet-length limit protocol extension unit s a.within in
    let n : 0 + length (wrapped protocol extension unit) ≡ total = omega arith in
    record {
      written = rw (wrapping_done limit protocol extension unit output e, n) refl;
      long = long;
      formed = packet_formed limit protocol extension unit s a.within;
      smallest = code_smallest protocol (length unit);
      unwrapped = packet_unwrapped limit protocol extension unit s a.within;
      unit_back = packet_unit limit protocol extension unit s a.within;
    }

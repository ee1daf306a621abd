-- The idle packet of r octets: what it is made of, and what its header says.
-- Assumes nothing.
use mathlib.Core.Path.{◌≡◌, refl, sym, ap, ◌∙◌}
use mathlib.Core.List.{List, [], ◌∷◌, ◌++◌}
use mathlib.Core.Bool.{Bool, true, false}
use Prim.Native.Nat.{ℕ, ◌+◌, ◌-◌, ◌/◌, ◌%◌, ◌≤◌, ◌<◌}
use native.Mathlib.Omega.{arith}
use lib.ListN.{length, get_or, replicate, length-append, length-replicate}
use lib.Dec.{leb, eqb}
use borrow.Author.Tests.{leb-true, leb-false, le-ltb, ltb-false, eqb-true, eqb-false, ne_eqb}
use Rattle.octets.specs.Basics.{pick, octets, over, laid, first}
use Rattle.words.specs.Fields.{field, join, placed}
use Rattle.octets.proofs.Choices.{split, none_holds, or_false}
use Rattle.octets.proofs.Written.{laid_within, length_over, over_over}
use Rattle.packets.specs.Packet.{whole, look, encapsulation, WellFormed, packet_version, protocol_of, is_idle, header_length}
use Rattle.wrapping.specs.Front.{first_octet, second_octet, front}
use Rattle.wrapping.specs.Idle.{idle_header, idle_packet, idle_length_of_length, idle_packet_rows}
use Rattle.wrapping.proofs.Fronts.{first_version, first_protocol, length_front, front_first, front_look}

-- ---- the header, as the header of an encapsulation packet of protocol 0

-- which header it is, and why
data Chosen (r : ℕ) : ℕ → List ℕ → Type 0 where
  one : r ≡ 1 → Chosen r 0 (0xE0 ∷ [])
  two : 2 ≤ r → r ≤ 255 → Chosen r 1 (0xE1 ∷ r ∷ [])
  four : 255 < r → Chosen r 2 (0xE2 ∷ 0 ∷ octets 2 r)

chosen : (r : ℕ) → 1 ≤ r → Chosen r (idle_length_of_length r) (idle_header r)
unfolding idle_length_of_length idle_header
chosen r h = go (eqb r 1) (leb r 255) refl refl
  where
    go : (a b : Bool) → eqb r 1 ≡ a → leb r 255 ≡ b → Chosen r (pick a 0 (pick b 1 2)) (pick a (0xE0 ∷ []) (pick b (0xE1 ∷ r ∷ []) (0xE2 ∷ 0 ∷ octets 2 r)))
    go true b x y = one (eqb-true r 1 x)
    go false true x y = two (omega (arith, eqb-false r 1 x)) (leb-true r 255 y)
    go false false x y = four (leb-false r 255 y)

idle_front : (r : ℕ) → 1 ≤ r → idle_header r ≡ front 0 0 (idle_length_of_length r) r
unfolding front header_length first_octet second_octet placed join octets
idle_front r h = go (chosen r h)
  where
    go : {code : ℕ} {os : List ℕ} → Chosen r code os → os ≡ front 0 0 code r
    go (one e) = refl
    go (two k m) = let e : r / 1 % 256 ≡ r = omega arith in rw e refl
    go (four k) = refl

-- it is no longer than the packet
pub idle_size : (r : ℕ) → 1 ≤ r → header_length (idle_length_of_length r) ≤ r
unfolding header_length
idle_size r h = go (chosen r h)
  where
    go : {code : ℕ} {os : List ℕ} → Chosen r code os → header_length code ≤ r
    go (one e) = omega arith
    go (two k m) = omega arith
    go (four k) = omega arith

module _ (fill r : ℕ) (some : 1 ≤ r) where
  abbrev code : ℕ
  code = idle_length_of_length r

  abbrev rest : List ℕ
  rest = replicate (r - header_length code) fill

  packet_front : idle_packet fill r ≡ front 0 0 code r ++ rest
  unfolding idle_packet
  packet_front =
      rw (idle_front r some, length_front 0 0 code r) refl

  pub idle-length : length (idle_packet fill r) ≡ r
  idle-length =
      ap length packet_front
      ∙ length-append (front 0 0 code r) rest
      ∙ omega (arith, length_front 0 0 code r, length-replicate (r - header_length code) fill, idle_size r some)

  pub idle_idle : is_idle (idle_packet fill r) ≡ true
  unfolding is_idle
  idle_idle =
      let first : get_or (idle_packet fill r) 0 0 ≡ first_octet 0 code =
      ap (λ (os : List ℕ). get_or os 0 0) packet_front ∙ front_first 0 0 code r rest in
      let version : packet_version (get_or (idle_packet fill r) 0 0) ≡ 7 = ap packet_version first ∙ first_version 0 code in
      let protocol : protocol_of (get_or (idle_packet fill r) 0 0) ≡ 0 = ap protocol_of first ∙ first_protocol 0 code (omega arith) in
      rw (version, protocol) refl

  pub idle_formed : (limit : ℕ) → r ≤ limit → r < 65536 → WellFormed limit (idle_packet fill r)
  unfolding look encapsulation field front header_length first_octet second_octet placed join octets
  idle_formed limit k m = ap (look limit) packet_front ∙ says (chosen r some) ∙ ap whole (sym idle-length)
    where
      says : {n : ℕ} {os : List ℕ} → Chosen r n os → look limit (front 0 0 n r ++ rest) ≡ whole r
      says (one e) = ap whole (sym e)
      says (two j l) = front_look 0 0 1 r rest limit (omega arith) (omega arith) (omega arith) k (omega arith)
      says (four j) = front_look 0 0 2 r rest limit (omega arith) (omega arith) (omega arith) k m

-- ---- the packet over a buffer

-- what holds where no row does, and where none does
pub idle_admitted : (d : List ℕ) (at r : ℕ) → first (idle_packet_rows r (length d - at)) ≡ 0 → (1 ≤ r) × (at + r ≤ length d)
unfolding idle_packet_rows
idle_admitted d at r e =
    let a = none_holds 0 _ _ e in
    let u = or_false _ _ a.0 in
    let some : 1 ≤ r = split 1 r (λ h. h) (λ h. absurd (eqb-false r 0 u.0 (omega arith))) in
    let roomy : r ≤ length d - at = ltb-false (length d - at) r (none_holds 1 _ _ a.1).0 in
    (some, omega arith)

pub idle_admits : (d : List ℕ) (at r : ℕ) → 1 ≤ r → r ≤ 65535 → at + r ≤ length d → first (idle_packet_rows r (length d - at)) ≡ 0
unfolding idle_packet_rows first
idle_admits d at r some most roomy =
    let there : r ≡ 0 → ⊥ = λ e. omega arith in
    let room : r ≤ length d - at = omega arith in
    rw (ne_eqb r 0 there, le-ltb 65535 r most, le-ltb (length d - at) r room) refl

-- its header, and then the fill
pub idle_written : (d : List ℕ) (at fill r : ℕ) → 1 ≤ r → at + r ≤ length d
    → laid (over d at (front 0 0 (idle_length_of_length r) r)) (at + header_length (idle_length_of_length r)) (replicate (r - header_length (idle_length_of_length r)) fill)
    ≡ over d at (idle_packet fill r)
idle_written d at fill r some h =
    let n : ℕ = header_length (idle_length_of_length r) in
    let header : List ℕ = front 0 0 (idle_length_of_length r) r in
    let fills : List ℕ = replicate (r - n) fill in
    let long : length header ≡ n = length_front 0 0 (idle_length_of_length r) r in
    let short : n ≤ r = idle_size r some in
    let room : length (over d at header) ≡ length d = length_over d at header (omega arith) in
    laid_within (over d at header) (at + n) fills (omega (arith, length-replicate (r - n) fill))
    ∙ ap (λ (k : ℕ). over (over d at header) (at + k) fills) (sym long)
    ∙ over_over d at header fills (omega arith)
    ∙ ap (over d at) (sym (packet_front fill r some))

-- A space packet's header says the same to both readers: its fields stand in the same octets.
-- Assumes nothing.
use Prim.Native.Nat.{ℕ, ◌+◌, ◌*◌, ◌/◌, ◌%◌, ◌^◌, ◌≤◌, ◌<◌}
use mathlib.Core.Path.{◌≡◌, refl, sym, ap, ◌∙◌}
use mathlib.Core.List.{List}
use mathlib.Core.Logic.{⊎_elim}
use mathlib.Core.Bool.{Bool, true, false}
use native.Mathlib.Nat.{div-one}
use native.Mathlib.Omega.{arith}
use lib.Arith.{digits_div, digits_mod}
use lib.Pow.{shr-shr}
use lib.ListN.{length, take, drop, get_or}
use lib.Dec.{ltb, eqb}
use borrow.Author.Tests.{le-ltb}
use Rattle.octets.specs.Basics.{AllOctets, pick, number, number_at, first}
use Rattle.words.specs.Fields.{field}
use Rattle.octets.proofs.Choices.{apart}
use Rattle.octets.proofs.Numbers.{run_lt, run_join, number_within, one_octet}
use Rattle.octets.proofs.Tests.{test}
use Rattle.packets.specs.Packet.{Look, more, damaged, whole, limit_in_range, look, counted, sized, packet_version, apid, key_of, is_idle, size_of}
use Rattle.packets.specs.Header.{bare, told, reading}
use Rattle.packets.proofs.Looks.{look_space, look_kind}
use Rattle.space.specs.Space.{space_fields, space_read_rows, space_reading}
use Rattle.space.proofs.Spaces.{space_accepted, space_accepts}
use Rattle.demands.specs.SpaceAndPackets.{as_packet, SameHeader}

-- a word of two parts: a field of the upper part, and the whole lower part
module _ (high low width : ℕ) (short : low < 2 ^ width) where
  upper : (place size : ℕ) → field (high * 2 ^ width + low) (width + place) size ≡ field high place size
  unfolding field
  upper place size =
      ap (λ (n : ℕ). n % 2 ^ size) (sym (shr-shr (high * 2 ^ width + low) width place) ∙ ap (λ (n : ℕ). n / 2 ^ place) (digits_div high short))

  lower : field (high * 2 ^ width + low) 0 width ≡ low
  unfolding field
  lower = ap (λ (n : ℕ). n % 2 ^ width) (div-one (high * 2 ^ width + low)) ∙ digits_mod high short

-- the fields of the six octets' word, and what the header reader takes from single octets
module _ (os : List ℕ) (o : AllOctets os) (k : 6 ≤ length os) where
  abbrev word : ℕ
  word = number_at 6 0 os

  cut : (place width : ℕ) {n : ℕ} → number (take 6 os) ≡ n → field word place width ≡ field n place width
  cut place width e = ap (λ (n : ℕ). field n place width) (number_within 6 0 os k ∙ e)

  same_version : field word 45 3 ≡ packet_version (get_or os 0 0)
  same_version =
      cut 45 3 (run_join os 0 1 5 k)
      ∙ upper (number (take 1 os)) (number (take 5 (drop 1 os))) 40 (run_lt os 1 5 o k) 5 3
      ∙ ap (λ (n : ℕ). field n 5 3) (one_octet os 0 (omega arith))

  same_apid : field word 32 11 ≡ apid os
  same_apid =
      cut 32 11 (run_join os 0 2 4 k)
      ∙ upper (number (take 2 os)) (number (take 4 (drop 2 os))) 32 (run_lt os 2 4 o k) 0 11

  same_length : field word 0 16 ≡ number_at 2 4 os
  same_length =
      cut 0 16 (run_join os 0 4 2 k)
      ∙ lower (number (take 4 os)) (number (take 2 (drop 4 os))) 16 (run_lt os 4 2 o k)
      ∙ sym (number_within 2 4 os k)

-- what is told of a space packet that is seen to have so many octets
module _ (os : List ℕ) (total : ℕ) (v : packet_version (get_or os 0 0) ≡ 0) where
  tells : (above : Bool)
      → told os (pick above (damaged 4) (whole total))
      ≡ pick above (bare 0 2 4) (record { refusal = 0; outcome = 3; version = 0; key = apid os; idle = eqb (apid os) 2047; size = 6; total = total; damage = 0 })
  unfolding told key_of is_idle size_of
  tells true = refl
  tells false = rw v refl

-- six octets are there, and a total is 7 at least
sees : (limit len stated : ℕ) → 6 ≤ len → counted limit len 6 (stated + 7) ≡ pick (ltb limit (stated + 7)) (damaged 4) (whole (stated + 7))
unfolding counted sized
sees limit len stated k = rw (le-ltb len 6 k, le-ltb (stated + 7) 6 (omega arith)) refl

telling : (limit : ℕ) (os : List ℕ) → AllOctets os → limit_in_range limit ≡ true → first (space_read_rows os) ≡ 0
    → reading limit os ≡ as_packet limit (space_reading os).header
unfolding reading space_reading space_fields as_packet
telling limit os o ok accepted =
    let a = space_accepted os accepted in
    let v : packet_version (get_or os 0 0) ≡ 0 = sym (same_version os o a.0) ∙ a.1 in
    let total : ℕ = number_at 2 4 os + 7 in
    let seen : look limit os ≡ pick (ltb limit total) (damaged 4) (whole total) =
    look_space limit os (λ none. omega arith) v ∙ sees limit (length os) (number_at 2 4 os) a.0 in
    rw (ok, accepted, same_apid os o a.0, same_length os o a.0) (ap (told os) seen ∙ tells os total v (ltb limit total))

-- a whole header of version 000 has six octets
kind_read : (limit : ℕ) (os : List ℕ) → AllOctets os → (k : Look) → look limit os ≡ k → (told os k).outcome ≡ 3 → (told os k).version ≡ 0
    → first (space_read_rows os) ≡ 0
unfolding told
kind_read limit os o more e found v = absurd (omega arith)
kind_read limit os o (damaged d) e found v = absurd (omega arith)
kind_read limit os o (whole total) e found v =
    ⊎_elim (λ k. space_accepts os k.1 (same_version os o k.1 ∙ v)) (λ k. absurd (omega arith)) (look_kind limit os e)

reads : (limit : ℕ) (os : List ℕ) → AllOctets os → (reading limit os).outcome ≡ 3 → (reading limit os).version ≡ 0 → first (space_read_rows os) ≡ 0
unfolding reading
reads limit os o found v =
    test (limit_in_range limit) (λ t. kind_read limit os o (look limit os) refl (rw t at found) (rw t at v)) (λ t. apart (cc))

pub same_header : SameHeader
same_header = record { told = telling; read = reads }

-- What the reader says of headers as they are written.
-- Assumes nothing.
use mathlib.Core.Path.{◌≡◌, refl, ap, ◌∙◌}
use mathlib.Core.List.{List, [], ◌∷◌, ◌++◌}
use Prim.Native.Nat.{ℕ, zero, suc, ◌+◌, ◌^◌, ◌≤◌, ◌<◌}
use native.Mathlib.Omega.{arith}
use lib.ListN.{length, take, length-append, length-take}
use lib.Seq.{take_at, drop_at}
use borrow.Author.Tests.{lt-ltb, le-ltb}
use Rattle.octets.specs.Basics.{octets, number, number_at}
use Rattle.octets.proofs.Numbers.{number_within, number_octets}
use Rattle.octets.proofs.Written.{length-octets}
use Rattle.packets.specs.Packet.{more, damaged, whole, look, sized, counted, header_length, encapsulation, packet_version, protocol_of, length_of_length}
use Rattle.packets.proofs.Sizes.{two_halves}
use Rattle.packets.proofs.Looks.{look_none, look_space, look_encapsulation, look_other, none_damaged, half_read, counted_short, counted_long}
use Rattle.wrapping.specs.Front.{first_octet, half}
use Rattle.wrapping.proofs.Fronts.{first_version, first_protocol, first_code}
use Rattle.demands.specs.Damage.{header, Written, space_header, AsWritten}

-- a whole header by the length that it states
sized_below : (limit size total : ℕ) → total < size → sized limit size total ≡ damaged 3
unfolding sized
sized_below limit size total h = rw (lt-ltb total size h) refl

sized_over : (limit size total : ℕ) → size ≤ total → limit < total → sized limit size total ≡ damaged 4
unfolding sized
sized_over limit size total h k = rw (le-ltb total size h, lt-ltb limit total k) refl

sized_within : (limit size total : ℕ) → size ≤ total → total ≤ limit → sized limit size total ≡ whole total
unfolding sized
sized_within limit size total h k = rw (le-ltb total size h, le-ltb limit total k) refl

-- a number that is written behind so many octets is read there
read_behind : (n : ℕ) (before : List ℕ) (value : ℕ) (rest : List ℕ) {at : ℕ} → length before ≡ at → value < 256 ^ n
    → number_at n at (before ++ (octets n value ++ rest)) ≡ value
read_behind n before value rest {at} e h =
    let room : length (before ++ (octets n value ++ rest)) ≡ length before + (n + length rest) =
    length-append before (octets n value ++ rest) ∙ omega (arith, length-append (octets n value) rest, length-octets n value) in
    number_within n at (before ++ (octets n value ++ rest)) (omega arith)
    ∙ ap (λ (os : List ℕ). number (take n os)) (drop_at before (octets n value ++ rest) at e)
    ∙ ap number (take_at (octets n value) rest n (length-octets n value))
    ∙ number_octets n value h

module _ (limit : ℕ) where
  version : (o : ℕ) (rest : List ℕ) → 1 ≤ packet_version o → packet_version o ≤ 6 → look limit (o ∷ rest) ≡ damaged 1
  version o rest low high = look_other limit (o ∷ rest) (λ e. omega arith) (λ e. omega arith) (λ e. omega arith)

  one_octet : (protocol : ℕ) (rest : List ℕ) → 1 ≤ protocol → protocol ≤ 7 → look limit (first_octet protocol 0 ∷ rest) ≡ damaged 2
  one_octet protocol rest low high =
      let o : ℕ = first_octet protocol 0 in
      let p : protocol_of o ≡ protocol = first_protocol protocol 0 high in
      look_encapsulation limit (o ∷ rest) (λ e. omega arith) (first_version protocol 0)
      ∙ ap (λ (n : ℕ). encapsulation limit (protocol_of o) n (o ∷ rest)) (first_code protocol 0 (omega arith))
      ∙ none_damaged limit (o ∷ rest) (protocol_of o) (λ e. omega (arith, p, e))

  module _ (protocol code total : ℕ) (between rest : List ℕ) (w : Written code between total) where
    os : List ℕ
    os = header protocol code between total rest

    first : ℕ
    first = first_octet protocol code

    -- octets that begin so, by how many there are
    begun : (xs : List ℕ) → look limit (first ∷ xs) ≡ counted limit (suc (length xs)) (header_length code) (number_at (half code) (half code) (first ∷ xs))
    unfolding first
    begun xs =
        let c : length_of_length first ≡ code = first_code protocol code w.most in
        look_encapsulation limit (first ∷ xs) (λ e. omega arith) (first_version protocol code)
        ∙ ap (λ (n : ℕ). encapsulation limit (protocol_of first) n (first ∷ xs)) c
        ∙ half_read limit (first ∷ xs) (protocol_of first) code (λ e. omega (arith, w.least))

    stated : look limit os ≡ sized limit (header_length code) total
    unfolding os first
    stated =
        let before : List ℕ = first ∷ between in
        let long : length os ≡ half code + (half code + length rest) =
        ap suc (length-append between (octets (half code) total ++ rest))
        ∙ omega (arith, length-append (octets (half code) total) rest, length-octets (half code) total, w.opens) in
        begun (between ++ (octets (half code) total ++ rest))
        ∙ ap (counted limit (length os) (header_length code)) (read_behind (half code) before total rest w.opens w.stated)
        ∙ counted_long limit (length os) (header_length code) total (omega (arith, long, two_halves code w.least))

    cut : (k : ℕ) → k < header_length code → look limit (take k os) ≡ more
    unfolding os first
    cut zero h = look_none limit [] refl
    cut (suc k) h =
        let xs : List ℕ = take k (between ++ (octets (half code) total ++ rest)) in
        begun xs ∙ counted_short limit (suc (length xs)) (header_length code) _ (omega (arith, length-take k (between ++ (octets (half code) total ++ rest))))

  module _ (o a b c field : ℕ) (rest : List ℕ) (v : packet_version o ≡ 0) where
    space_os : List ℕ
    space_os = space_header o a b c field rest

    space_stated : field < 256 ^ 2 → look limit space_os ≡ sized limit 6 (field + 7)
    unfolding space_os
    space_stated h =
        let long : length space_os ≡ 6 + length rest = omega (arith, length-append (octets 2 field) rest, length-octets 2 field) in
        look_space limit space_os (λ e. omega arith) v
        ∙ ap (λ (n : ℕ). counted limit (length space_os) 6 (n + 7)) (read_behind 2 (o ∷ a ∷ b ∷ c ∷ []) field rest refl h)
        ∙ counted_long limit (length space_os) 6 (field + 7) (omega arith)

    space_cut : (k : ℕ) → k < 6 → look limit (take k space_os) ≡ more
    unfolding space_os
    space_cut zero h = look_none limit [] refl
    space_cut (suc k) h =
        let xs : List ℕ = take k (a ∷ b ∷ c ∷ (octets 2 field ++ rest)) in
        look_space limit (o ∷ xs) (λ e. omega arith) v
        ∙ counted_short limit (length (o ∷ xs)) 6 _ (omega (arith, length-take k (a ∷ b ∷ c ∷ (octets 2 field ++ rest))))

pub as_written : (limit : ℕ) → AsWritten limit
unfolding os space_os
as_written limit = record {
  version = version limit;
  one_octet = one_octet limit;
  below = λ protocol code total between rest w h. stated limit protocol code total between rest w ∙ sized_below limit (header_length code) total h;
  over = λ protocol code total between rest w h k. stated limit protocol code total between rest w ∙ sized_over limit (header_length code) total h k;
  within = λ protocol code total between rest w h k. stated limit protocol code total between rest w ∙ sized_within limit (header_length code) total h k;
  cut = λ protocol code total between rest w k h. cut limit protocol code total between rest w k h;
  space_over = λ o a b c field rest v f h. space_stated limit o a b c field rest v f ∙ sized_over limit 6 (field + 7) (omega arith) h;
  space_within = λ o a b c field rest v f h. space_stated limit o a b c field rest v f ∙ sized_within limit 6 (field + 7) (omega arith) h;
  space_cut = λ o a b c field rest v k h. space_cut limit o a b c field rest v k h;
}

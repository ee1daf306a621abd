-- Wrapping a data unit in an encapsulation packet.
use Rattle.std.specs.Prelude.{◌≡◌, ℕ, ◌+◌, ◌/◌, ◌^◌, ◌≤◌, ◌<◌, List, [], ◌∷◌, ◌++◌, Bool, true, false, Result, Ok, Err, not, length, drop, leb, ltb, eqb}
use Rattle.octets.specs.Basics.{pick, and, or, part_of, over, Row, row, first}
use Rattle.octets.specs.Refusals.{number_of}
use Rattle.octets.specs.declared.refusals.Refusal.{Refusal}
use Rattle.packets.specs.Packet.{limit_in_range, WellFormed, header_length}
use Rattle.packets.specs.Unwrap.{unwrapping}
use Rattle.wrapping.specs.Front.{front}

-- the length-of-length of the smallest header that fits a data unit of n octets; protocol 6 needs four octets at least
unfoldable pub length_of_length_for : ℕ → ℕ → ℕ
length_of_length_for protocol n =
    pick (and (leb (n + 2) 255) (not (eqb protocol 6))) 1
    (pick (leb (n + 4) 65535) 2 3)

-- the length of the packet
unfoldable pub wrapped_total : ℕ → ℕ → ℕ
wrapped_total protocol n = n + header_length (length_of_length_for protocol n)

-- the packet
unfoldable pub wrapped : ℕ → ℕ → List ℕ → List ℕ
wrapped protocol extension unit =
    let n : ℕ = length unit in
    front protocol extension (length_of_length_for protocol n) (wrapped_total protocol n) ++ unit

-- a protocol from 1 to 7, and an extension to 15, which is 0 without protocol 6
unfoldable pub wrap_in_range : ℕ → ℕ → ℕ → Bool
wrap_in_range limit protocol extension =
    and (limit_in_range limit)
    (and (leb 1 protocol)
    (and (leb protocol 7)
    (and (leb extension 15) (or (eqb extension 0) (eqb protocol 6)))))

-- the refusals, for a unit of n octets, its total and the room for it
unfoldable pub wrap_rows : ℕ → ℕ → ℕ → ℕ → ℕ → ℕ → List Row
wrap_rows limit protocol extension n total room =
    row 1 (not (wrap_in_range limit protocol extension))
    ∷ row 8 (or (eqb n 0) (ltb limit total))
    ∷ row 2 (ltb room total)
    ∷ []

-- what comes of a call: whether it is accepted; the refusal, or 0; what is wrong with a packet's header, 0 since none is lent; the total,
-- 0 on a refusal; and the lent output
pub record Wrapping : Type 0 where
  pub accepted : Bool
  pub refusal : ℕ
  pub damage : ℕ
  pub total : ℕ
  pub output : List ℕ

-- the rule: a refused call writes nothing
unfoldable pub wrapping : ℕ → ℕ → ℕ → List ℕ → List ℕ → Wrapping
wrapping limit protocol extension unit output =
    let total : ℕ = wrapped_total protocol (length unit) in
    let refusal : ℕ = first (wrap_rows limit protocol extension (length unit) total (length output)) in
    pick (eqb refusal 0)
    (record { accepted = true; refusal = 0; damage = 0; total = total; output = over output 0 (wrapped protocol extension unit) })
    (record { accepted = false; refusal = refusal; damage = 0; total = 0; output = output })

-- an answer, and the output as it is left
unfoldable pub wraps : Result ℕ Refusal → List ℕ → Wrapping
wraps (Err r) output = record { accepted = false; refusal = number_of r; damage = 0; total = 0; output = output }
wraps (Ok total) output = record { accepted = true; refusal = 0; damage = 0; total = total; output = output }

-- a header by its length-of-length suits a data unit of n octets: its length field holds the total, and for protocol 6 it has the
-- extension
pub record Suits (protocol n code : ℕ) : Type 0 where
  pub least : 1 ≤ code
  pub most : code ≤ 3
  pub stated : n + header_length code < 256 ^ (header_length code / 2)
  pub extended : protocol ≡ 6 → 2 ≤ code

-- ---- what wrapping and unwrapping keep to, for a call of wrapping that is not refused

pub record RoundTrip (limit protocol extension : ℕ) (unit output : List ℕ) : Type 0 where
  -- the total's first octets of the output are the packet, and the others stay
  pub written : (wrapping limit protocol extension unit output).output
      ≡ wrapped protocol extension unit ++ drop (wrapped_total protocol (length unit)) output
  pub long : length (wrapped protocol extension unit) ≡ wrapped_total protocol (length unit)
  pub formed : WellFormed limit (wrapped protocol extension unit)
  pub smallest : (code : ℕ) → Suits protocol (length unit) code → header_length (length_of_length_for protocol (length unit)) ≤ header_length code
  -- unwrapping it gives protocol and extension back, and the part that it speaks of is the unit
  pub unwrapped : unwrapping limit (wrapped protocol extension unit)
      ≡ record {
        accepted = true;
        refusal = 0;
        damage = 0;
        protocol = protocol;
        extension = extension;
        start = header_length (length_of_length_for protocol (length unit));
        size = length unit;
      }
  pub unit_back : part_of (wrapped protocol extension unit) (header_length (length_of_length_for protocol (length unit))) (length unit) ≡ unit

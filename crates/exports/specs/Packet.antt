-- Packets in the numbers of the C interface. An array that is short is refused first.
use Rattle.std.specs.Prelude.{ℕ, ◌+◌, List, [], ◌∷◌, length, get_or, leb, ltb, eqb}
use Rattle.octets.specs.Basics.{pick, or}
use Rattle.packets.specs.Packet.{limit_in_range, well_formed}
use Rattle.packets.specs.Header.{Reading, reading}
use Rattle.wrapping.specs.Wrap.{Wrapping, wrapping}
use Rattle.packets.specs.Unwrap.{Unwrapping, unwrapping}
use Rattle.arrays.specs.Arrays.{told, bit}
use Rattle.exports.specs.Left.{Left, left}

-- 1 a space packet, 2 an encapsulation packet, by the version
unfoldable pub kind_number : ℕ → ℕ
kind_number version = pick (eqb version 0) 1 2

-- what was found: 1 more octets are needed, 2 damaged, 3 a header; of a header its kind, whether it is idle, its APID or
-- protocol, its length and the packet's; and what is wrong with a damaged one
unfoldable pub header_numbers : Reading → List ℕ
header_numbers r =
    r.outcome
    ∷ pick (eqb r.outcome 3) (kind_number r.version) 0
    ∷ bit r.idle
    ∷ r.key
    ∷ r.size
    ∷ r.total
    ∷ r.damage
    ∷ []

unfoldable pub header_leaves : ℕ → List ℕ → List ℕ → Left
header_leaves limit octets answer =
    let r : Reading = reading limit octets in
    pick (ltb (length answer) 7) (left 2 [] [] answer) (left r.refusal [] [] (told answer (header_numbers r)))

-- 1 well formed, 2 not; nothing under a limit out of range
unfoldable pub formed_numbers : ℕ → List ℕ → List ℕ
formed_numbers limit packet = pick (limit_in_range limit) (pick {A = ℕ} (well_formed limit packet) 1 2) 0 ∷ []

-- a limit out of range is refused
unfoldable pub formed_leaves : ℕ → List ℕ → List ℕ → Left
formed_leaves limit packet answer =
    pick (ltb (length answer) 1)
    (left 2 [] [] answer)
    (left (pick (limit_in_range limit) 0 1) [] [] (told answer (formed_numbers limit packet)))

-- the packet's length, and what is wrong with a packet's header
unfoldable pub wrap_numbers : Wrapping → List ℕ
wrap_numbers w = w.total ∷ w.damage ∷ []

unfoldable pub wrap_leaves : ℕ → ℕ → ℕ → List ℕ → List ℕ → List ℕ → Left
wrap_leaves limit protocol extension unit packet answer =
    let w : Wrapping = wrapping limit protocol extension unit packet in
    pick (ltb (length answer) 2) (left 2 [] packet answer) (left w.refusal [] w.output (told answer (wrap_numbers w)))

-- the protocol, the extension, where the data unit starts and how long it is; and what is wrong with the packet's header
unfoldable pub unwrap_numbers : Unwrapping → List ℕ
unwrap_numbers u = u.protocol ∷ u.extension ∷ u.start ∷ u.size ∷ u.damage ∷ []

unfoldable pub unwrap_leaves : ℕ → List ℕ → List ℕ → Left
unwrap_leaves limit packet answer =
    let u : Unwrapping = unwrapping limit packet in
    pick (ltb (length answer) 5) (left 2 [] [] answer) (left u.refusal [] [] (told answer (unwrap_numbers u)))

-- where the data unit of such an answer lies in a packet, its start and its size; 0 and 0 where it would run past the end
unfoldable pub unit_numbers : List ℕ → List ℕ → List ℕ
unit_numbers unwrapped packet =
    let start : ℕ = get_or unwrapped 2 0 in
    let size : ℕ = get_or unwrapped 3 0 in
    pick (leb (start + size) (length packet)) (start ∷ size ∷ []) (0 ∷ 0 ∷ [])

-- the answer of an unwrapping is lent with the packet; nothing but a short array is refused
unfoldable pub unit_leaves : List ℕ → List ℕ → List ℕ → Left
unit_leaves unwrapped packet answer =
    pick (or (ltb (length unwrapped) 5) (ltb (length answer) 2))
    (left 2 [] [] answer)
    (left 0 [] [] (told answer (unit_numbers unwrapped packet)))

-- Relay tables in the numbers of the C interface.
use Rattle.std.specs.Prelude.{ℕ, zero, suc, ◌/◌, ◌%◌, List, [], ◌∷◌, Bool, false, not, length, get_or, drop, ltb, eqb}
use Rattle.octets.specs.Basics.{pick, or}
use Rattle.relay.specs.Table.{pair, empty, Loaded, loading}
use Rattle.relay.specs.Route.{Routing, routing}
use Rattle.relay.specs.declared.Entry.{Entry}
use Rattle.relay.specs.declared.Table.{Table}
use Rattle.arrays.specs.Arrays.{told, kept}
use Rattle.exports.specs.Left.{Left, left}

-- ---- a table

-- an entry of two numbers, an APID and a destination; one that no table has where a number is too great
unfoldable pub entry_of : ℕ → ℕ → Entry
entry_of apid destination = pick (or (ltb 65535 apid) (ltb 255 destination)) (pair 65535 0) (pair apid destination)

-- so many entries of numbers two by two, which are 0 past the last
unfoldable pub entries_of : ℕ → List ℕ → List Entry
entries_of zero ns = []
entries_of (suc k) ns = entry_of (get_or ns 0 0) (get_or ns 1 0) ∷ entries_of k (drop 2 ns)

-- a table's numbers: how many entries it has, and 32 entries
unfoldable pub table_of : List ℕ → Table
table_of ns = record { count = get_or ns 0 0; entries = entries_of 32 (drop 1 ns) }

-- entries in numbers two by two
unfoldable pub entry_numbers : List Entry → List ℕ
entry_numbers [] = []
entry_numbers (e ∷ es) = e.apid ∷ e.destination ∷ entry_numbers es

-- a table in numbers
unfoldable pub table_numbers : Table → List ℕ
table_numbers t = t.count ∷ entry_numbers t.entries

-- ---- loading

-- whether one of the numbers two by two has a destination above 255
unfoldable pub wide : List ℕ → Bool
wide [] = false
wide (apid ∷ []) = false
wide (apid ∷ destination ∷ ns) = or (ltb 255 destination) (wide ns)

-- a list that ends within an entry is short; then a destination above 255 is refused, and then what loading refuses
unfoldable pub load_leaves : List ℕ → List ℕ → Left
load_leaves entries table =
    let loaded : Loaded = loading empty (length entries / 2) (entries_of 32 entries) in
    pick (or (not (eqb (length entries % 2) 0)) (ltb (length table) 65))
    (left 2 table [] [])
    (pick (wide entries)
    (left 1 table [] [])
    (left loaded.refusal (kept loaded.refusal table (table_numbers loaded.table)) [] []))

-- ---- routing

-- 1 no path, 2 a path, and how many destinations; and what is wrong with the packet's header
unfoldable pub route_numbers : Routing → List ℕ
route_numbers r = r.outcome ∷ r.count ∷ r.damage ∷ []

-- a table or an answer that is short is refused; then what routing answers
unfoldable pub route_leaves : ℕ → List ℕ → List ℕ → List ℕ → List ℕ → Left
route_leaves limit table packet destinations answer =
    let r : Routing = routing limit (table_of table) packet destinations in
    pick (or (ltb (length table) 65) (ltb (length answer) 3))
    (left 2 [] destinations answer)
    (left r.refusal [] r.output (told answer (route_numbers r)))

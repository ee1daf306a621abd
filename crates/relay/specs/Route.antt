-- The way of a packet by a relay table.
use Rattle.std.specs.Prelude.{ℕ, List, [], ◌∷◌, ◌++◌, Option, None, Some, Result, Ok, Err, not, length, drop, ltb, eqb}
use Rattle.octets.specs.Basics.{pick, Row, row, first}
use Rattle.octets.specs.Refusals.{number_of}
use Rattle.packets.specs.Packet.{limit_in_range, carried, well_formed, apid, by_kind, is_idle}
use Rattle.packets.specs.Damage.{damage_or_0}
use Rattle.packets.specs.declared.damage.Refused.{Refused}
use Rattle.relay.specs.Table.{entries_of, is_table}
use Rattle.relay.specs.declared.Entry.{Entry}
use Rattle.relay.specs.declared.Table.{Table}

-- the destinations of an APID: those of its entries, in their order
unfoldable pub destinations : ℕ → List Entry → List ℕ
destinations apid [] = []
destinations apid (e ∷ es) = pick (eqb e.apid apid) (e.destination ∷ destinations apid es) (destinations apid es)

-- where a packet goes: an idle packet and an encapsulation packet go nowhere
unfoldable pub path : List Entry → List ℕ → List ℕ
path es p = pick (is_idle p) [] (by_kind p (destinations (apid p) es) [])

-- the refusals, for the room that there is: a table that loading could not have made is refused by 10, and no room for the
-- packet's destinations, last, by 2
unfoldable pub route_rows : ℕ → Table → List ℕ → ℕ → List Row
route_rows limit t p room =
    row 1 (not (limit_in_range limit))
    ∷ row 10 (not (is_table t))
    ∷ row 8 (not (well_formed limit p))
    ∷ row 2 (ltb room (length (path (entries_of t) p)))
    ∷ []

-- what comes of a call: the refusal, or 0; what is wrong with the header of a packet refused by 8, or 0; 1 no path, 2 a path, 0 where the
-- call is refused; how many destinations are written; and the lent octets
pub record Routing : Type 0 where
  pub refusal : ℕ
  pub damage : ℕ
  pub outcome : ℕ
  pub count : ℕ
  pub output : List ℕ

-- a refused call writes nothing
abbrev pub refused : ℕ → ℕ → List ℕ → Routing
refused n damage output = record { refusal = n; damage = damage; outcome = 0; count = 0; output = output }

-- where there is no path nothing is written either
abbrev pub no_path : List ℕ → Routing
no_path output = record { refusal = 0; damage = 0; outcome = 1; count = 0; output = output }

-- destinations are written over the front of the lent octets; where there are none, there is no path
unfoldable pub written : List ℕ → List ℕ → Routing
written [] output = no_path output
written (d ∷ ds) output = record { refusal = 0; damage = 0; outcome = 2; count = length (d ∷ ds); output = (d ∷ ds) ++ drop (length (d ∷ ds)) output }

-- the same where there is room for them
unfoldable pub handed : List ℕ → List ℕ → Routing
handed ds output = pick (ltb (length output) (length ds)) (refused 2 0 output) (written ds output)

-- the rule: what is not refused is written
unfoldable pub routing : ℕ → Table → List ℕ → List ℕ → Routing
routing limit t p output =
    let refusal : ℕ = first (route_rows limit t p (length output)) in
    pick (eqb refusal 0) (written (path (entries_of t) p) output) (refused refusal (carried refusal limit p) output)

-- an answer, and the lent octets as they are left
unfoldable pub routes : Result (Option ℕ) Refused → List ℕ → Routing
routes (Err r) output = refused (number_of r.refusal) (damage_or_0 r.damage) output
routes (Ok None) output = no_path output
routes (Ok (Some count)) output = record { refusal = 0; damage = 0; outcome = 2; count = count; output = output }

-- Relays: which lists are tables, and where packets go. The destinations of APID 5 are those of source 001's test 9.
use Rattle.std.specs.Prelude.{ℕ, zero, suc, ◌≡◌, List, [], ◌∷◌, ◌++◌, map, true, false, replicate, Option, None, Some, Result, Ok, Err}
use Rattle.octets.specs.declared.refusals.Refusal.{Refusal}
use Rattle.packets.specs.Damage.{damage_or_0}
use Rattle.packets.specs.declared.damage.Damage.{Damage}
use Rattle.packets.specs.declared.damage.Refused.{Refused}
use Rattle.relay.specs.Table.{empty, is_table, loading}
use Rattle.relay.specs.Route.{Routing, routing, routes}
use Rattle.relay.specs.declared.Entry.{Entry}
use Rattle.relay.specs.declared.Table.{Table}
use Rattle.demands.specs.Numbers.Samples.{lent, ten, seven}
use Rattle.demands.specs.Numbers.Wrapping.{refused}

abbrev pub entry : ℕ → ℕ → Entry
entry apid destination = record { apid = apid; destination = destination }

-- the entries and what stands past them
abbrev pub table : ℕ → List Entry → Table
table count entries = record { count = count; entries = entries }

abbrev pub nothing : ℕ → List Entry
nothing n = replicate n (entry 0 0)

-- so many entries, each with its own APID
abbrev pub many : ℕ → List Entry
many zero = []
many (suc n) = entry n 7 ∷ many n

-- so many entries of APID 5, each with its own destination
abbrev pub to : ℕ → List Entry
to zero = []
to (suc n) = entry 5 n ∷ to n

-- APID 5 to 5, 0 and 1; APIDs 3, 2,032 and 2,046 to 9, 255 and 0
abbrev pub six : List Entry
six = entry 5 5 ∷ entry 3 9 ∷ entry 5 0 ∷ entry 2032 255 ∷ entry 5 1 ∷ entry 2046 0 ∷ []

abbrev pub relay : Table
relay = table 6 (six ++ nothing 26)

pub record Tables : Type 0 where
  pub none : empty ≡ table 0 (nothing 32)
  -- 12 for 33 entries and for an APID above 2,046
  pub counts : map (λ (n : ℕ). (loading empty n (many 33)).refusal) (0 ∷ 1 ∷ 32 ∷ 33 ∷ []) ≡ 0 ∷ 0 ∷ 0 ∷ 12 ∷ []
  pub apids : map (λ (a : ℕ). (loading empty 2 (entry 1 1 ∷ entry a 0 ∷ [])).refusal) (0 ∷ 2031 ∷ 2032 ∷ 2046 ∷ 2047 ∷ 2048 ∷ 65535 ∷ [])
      ≡ 0 ∷ 0 ∷ 0 ∷ 0 ∷ 12 ∷ 12 ∷ 12 ∷ []
  -- wherever it stands
  pub places : map (λ (es : List Entry). (loading empty 3 es).refusal)
      ((entry 2047 0 ∷ entry 5 5 ∷ entry 6 6 ∷ []) ∷ (entry 5 5 ∷ entry 2048 0 ∷ entry 6 6 ∷ []) ∷ (entry 5 5 ∷ entry 6 6 ∷ entry 65535 0 ∷ []) ∷ [])
      ≡ 12 ∷ 12 ∷ 12 ∷ []
  -- and for the same pair twice, beside another and apart; an APID twice and a destination twice are no such pair
  pub pairs : map (λ (es : List Entry). (loading empty 3 es).refusal)
      ((entry 5 5 ∷ entry 5 5 ∷ entry 6 6 ∷ [])
      ∷ (entry 5 5 ∷ entry 6 6 ∷ entry 5 5 ∷ [])
      ∷ (entry 6 6 ∷ entry 5 5 ∷ entry 5 5 ∷ [])
      ∷ (entry 5 5 ∷ entry 5 6 ∷ entry 6 5 ∷ [])
      ∷ [])
      ≡ 12 ∷ 12 ∷ 12 ∷ 0 ∷ []
  -- what is not counted is not loaded
  pub first : loading relay 1 (entry 5 5 ∷ entry 5 5 ∷ entry 2047 0 ∷ []) ≡ record { refusal = 0; table = table 1 (entry 5 5 ∷ nothing 31) }
  -- the old table goes, whole, or stays
  pub replaced : loading relay 2 (entry 7 7 ∷ entry 0 0 ∷ []) ≡ record { refusal = 0; table = table 2 (entry 7 7 ∷ entry 0 0 ∷ nothing 30) }
  pub emptied : loading relay 0 six ≡ record { refusal = 0; table = empty }
  pub kept : loading relay 2 (entry 7 7 ∷ entry 7 7 ∷ []) ≡ record { refusal = 12; table = relay }
  -- 10: more entries than a table has, an APID above 2,046, the same pair twice, or something past the entries
  pub made : map is_table (empty ∷ relay ∷ table 32 (many 32) ∷ table 2 (entry 5 5 ∷ entry 0 0 ∷ nothing 30) ∷ []) ≡ true ∷ true ∷ true ∷ true ∷ []
  pub not_made : map is_table
      (table 33 (many 32)
      ∷ table 1 (entry 2047 0 ∷ nothing 31)
      ∷ table 3 (entry 5 5 ∷ entry 6 6 ∷ entry 5 5 ∷ nothing 29)
      ∷ table 1 (entry 5 5 ∷ entry 6 0 ∷ nothing 30)
      ∷ table 0 (nothing 31 ++ (entry 0 1 ∷ []))
      ∷ [])
      ≡ false ∷ false ∷ false ∷ false ∷ false ∷ []

-- what routing answers
abbrev pub sends : ℕ → List ℕ → Routing
sends count output = record { refusal = 0; damage = 0; outcome = 2; count = count; output = output }

abbrev pub nowhere : List ℕ → Routing
nowhere output = record { refusal = 0; damage = 0; outcome = 1; count = 0; output = output }

abbrev pub refuses : ℕ → List ℕ → Routing
refuses n output = record { refusal = n; damage = 0; outcome = 0; count = 0; output = output }

-- by 8, with damage
abbrev pub hurt : ℕ → List ℕ → Routing
hurt damage output = record { refusal = 8; damage = damage; outcome = 0; count = 0; output = output }

-- a space packet of seven octets by the two octets of its first half word
abbrev pub packet : ℕ → ℕ → List ℕ
packet high low = high ∷ low ∷ 0xC0 ∷ 0x00 ∷ 0x00 ∷ 0x00 ∷ 0xA1 ∷ []

pub record Ways : Type 0 where
  -- each destination once, in the order of the table, over the front of what is lent
  pub path : map (routing 12 relay ten) (lent 3 ∷ lent 5 ∷ []) ≡ sends 3 (5 ∷ 0 ∷ 1 ∷ []) ∷ sends 3 (5 ∷ 0 ∷ 1 ∷ 0xFF ∷ 0xFF ∷ []) ∷ []
  -- room is asked for this APID's destinations alone; type and secondary header do not count
  pub one : map (λ (p : List ℕ). routing 12 relay p (lent 1)) (packet 0x00 0x03 ∷ packet 0x1F 0xF0 ∷ packet 0x07 0xFE ∷ [])
      ≡ sends 1 (9 ∷ []) ∷ sends 1 (255 ∷ []) ∷ sends 1 (0 ∷ []) ∷ []
  -- all entries of a table may be for one APID
  pub most : map (λ (output : List ℕ). (routing 12 (table 32 (to 32)) ten output).count) (lent 31 ∷ lent 32 ∷ lent 33 ∷ []) ≡ 0 ∷ 32 ∷ 32 ∷ []
  -- no path without room: an APID without an entry, an idle packet, encapsulation packets with the protocol 0 and 2; any packet with the empty table
  pub no_path : map (λ (p : List ℕ). routing 12 relay p []) (packet 0x00 0x04 ∷ packet 0x07 0xFF ∷ (0xE0 ∷ []) ∷ (0xE9 ∷ 0x02 ∷ []) ∷ [])
      ≡ nowhere [] ∷ nowhere [] ∷ nowhere [] ∷ nowhere [] ∷ []
  pub no_entries : map (routing 12 empty ten) ([] ∷ lent 2 ∷ []) ≡ nowhere [] ∷ nowhere (lent 2) ∷ []
  -- each number alone: 1, 10, 8 and 2; 8 for another version, a length that is not the packet's, one over the limit, and encapsulation packets with these
  pub limits : map (λ (m : ℕ). routing m relay seven (lent 3)) (6 ∷ 7 ∷ 65542 ∷ 65543 ∷ [])
      ≡ refuses 1 (lent 3) ∷ sends 3 (5 ∷ 0 ∷ 1 ∷ []) ∷ sends 3 (5 ∷ 0 ∷ 1 ∷ []) ∷ refuses 1 (lent 3) ∷ []
  pub unmade : routing 12 (table 1 (entry 2047 0 ∷ nothing 31)) (packet 0x07 0xFF) (lent 1) ≡ refuses 10 (lent 1)
  pub malformed : map (λ (p : List ℕ). routing 9 relay p (lent 3)) ([] ∷ packet 0x20 0x05 ∷ (seven ++ (0 ∷ [])) ∷ ten ∷ (0xE9 ∷ 0x03 ∷ []) ∷ (0xE9 ∷ 0x01 ∷ []) ∷ (0xEC ∷ []) ∷ [])
      ≡ map (λ d. hurt d (lent 3)) (0 ∷ 1 ∷ 0 ∷ 4 ∷ 0 ∷ 3 ∷ 2 ∷ [])
  pub no_room : routing 12 relay ten (lent 2) ≡ refuses 2 (lent 2)
  -- the order: all that is wrong at once, and then one thing after another put right
  pub order : (routing 6 (table 33 six) (seven ++ (0 ∷ [])) []).refusal
      ∷ (routing 12 (table 33 six) (seven ++ (0 ∷ [])) []).refusal
      ∷ (routing 12 relay (seven ++ (0 ∷ [])) []).refusal
      ∷ (routing 12 relay seven []).refusal
      ∷ []
      ≡ 1 ∷ 10 ∷ 8 ∷ 2 ∷ []
  -- what each case of the answer means, whatever the damage is
  pub damage_routed : (r : Refusal) (d : Option Damage) → (routes (Err (refused r d)) []).damage ≡ damage_or_0 d
  pub cases : map (λ (r : Result (Option ℕ) Refused). routes r (7 ∷ []))
      (Err (refused Refusal.Packet (Some Damage.OverLimit)) ∷ Err (refused Refusal.Room None) ∷ Ok None ∷ Ok (Some 3) ∷ [])
      ≡ hurt 4 (7 ∷ []) ∷ refuses 2 (7 ∷ []) ∷ nowhere (7 ∷ []) ∷ sends 3 (7 ∷ []) ∷ []

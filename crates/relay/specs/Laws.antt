-- What loading and routing keep to.
use Rattle.std.specs.Prelude.{◌≡◌, ℕ, ◌≤◌, ◌<◌, true, false, length, take, drop, get_or}
use mathlib.Core.List.{List, ◌∷◌, ◌++◌, Memᴰ}
use Rattle.packets.specs.Packet.{limit_in_range, look, damage_in, well_formed, packet_version, apid, is_idle}
use Rattle.relay.specs.Table.{pair, twice, entries_of, is_table, loading}
use Rattle.relay.specs.Route.{destinations, refused, no_path, routing}
use Rattle.relay.specs.declared.Entry.{Entry}
use Rattle.relay.specs.declared.Table.{Table}

-- entries that a table can have: 32 at most, no APID above 2,046, and no pair at two places
pub record Fit (count : ℕ) (es : List Entry) : Type 0 where
  pub few : count ≤ 32
  pub apids : (e : Entry) → Memᴰ e es → e.apid ≤ 2046
  pub pairs : (before after : List Entry) (e : Entry) → es ≡ before ++ (e ∷ after) → Memᴰ e after → ⊥

-- loading the first `count` of the entries that are lent
pub record Loads (old : Table) (count : ℕ) (lent : List Entry) : Type 0 where
  -- it is refused exactly where no table can have these entries
  pub fit : (loading old count lent).refusal ≡ 0 → Fit count (take count lent)
  pub unfit : Fit count (take count lent) → (loading old count lent).refusal ≡ 0
  -- where it is not refused the table has these entries, and passes; the old table does not matter
  pub holds : (loading old count lent).refusal ≡ 0 → entries_of (loading old count lent).table ≡ take count lent
  pub passes : (loading old count lent).refusal ≡ 0 → is_table (loading old count lent).table ≡ true
  pub last : (loading old count lent).refusal ≡ 0 → (older : Table) → loading older count lent ≡ loading old count lent
  -- where it is refused the table is the old one
  pub kept : ((loading old count lent).refusal ≡ 0 → ⊥) → (loading old count lent).table ≡ old

-- a table that passes is one that loading makes: that of its own entries
abbrev pub Reached : Table → Type 0
Reached t = length t.entries ≡ 32 → is_table t ≡ true → (old : Table) → loading old t.count t.entries ≡ record { refusal = 0; table = t }

-- the destinations of an APID
pub record Destines (apid : ℕ) (es : List Entry) : Type 0 where
  -- each that an entry names, and no other
  pub each : (d : ℕ) → Memᴰ (pair apid d) es → Memᴰ d (destinations apid es)
  pub no_other : (d : ℕ) → Memᴰ d (destinations apid es) → Memᴰ (pair apid d) es
  -- once, where no pair is listed twice
  pub once : twice es ≡ false → (before after : List ℕ) (d : ℕ) → destinations apid es ≡ before ++ (d ∷ after) → Memᴰ d after → ⊥
  -- in the order of the entries
  pub in_order : (more : List Entry) → destinations apid (es ++ more) ≡ destinations apid es ++ destinations apid more

-- routing, where limit and table are in order
pub record Routes (limit : ℕ) (t : Table) (p output : List ℕ) : Type 0 where
  -- a packet that is not well formed is refused by 8, an encapsulation packet too, and what is wrong with its header is named
  pub malformed : well_formed limit p ≡ false → routing limit t p output ≡ refused 8 (damage_in (look limit p)) output
  -- idle packets, encapsulation packets and APIDs without an entry have no path, whatever room there is
  pub idle : well_formed limit p ≡ true → is_idle p ≡ true → routing limit t p output ≡ no_path output
  pub encapsulation : well_formed limit p ≡ true → packet_version (get_or p 0 0) ≡ 7 → routing limit t p output ≡ no_path output
  pub no_entry : well_formed limit p ≡ true → ((d : ℕ) → Memᴰ (pair (apid p) d) (entries_of t) → ⊥)
      → routing limit t p output ≡ no_path output
  -- any other packet goes to the destinations of its APID, which stand in front of the lent octets; the others stay
  pub path : well_formed limit p ≡ true → is_idle p ≡ false → packet_version (get_or p 0 0) ≡ 0
      → 1 ≤ length (destinations (apid p) (entries_of t)) → length (destinations (apid p) (entries_of t)) ≤ length output
      → routing limit t p output
      ≡ record {
        refusal = 0;
        damage = 0;
        outcome = 2;
        count = length (destinations (apid p) (entries_of t));
        output = destinations (apid p) (entries_of t) ++ drop (length (destinations (apid p) (entries_of t))) output;
      }
  -- and is refused by 2 where there is no room for these
  pub no_room : well_formed limit p ≡ true → is_idle p ≡ false → packet_version (get_or p 0 0) ≡ 0
      → length output < length (destinations (apid p) (entries_of t)) → routing limit t p output ≡ refused 2 0 output

-- so it is of every call
pub record Relays : Type 0 where
  pub loads : (old : Table) (count : ℕ) (lent : List Entry) → Loads old count lent
  pub reached : (t : Table) → Reached t
  pub destines : (apid : ℕ) (es : List Entry) → Destines apid es
  pub routes : (limit : ℕ) (t : Table) (p output : List ℕ) → limit_in_range limit ≡ true → is_table t ≡ true → Routes limit t p output

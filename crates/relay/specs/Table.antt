-- Relay tables: which lists of entries are tables, and loading one.
use Rattle.std.specs.Prelude.{ℕ, ◌-◌, List, [], ◌∷◌, ◌++◌, Bool, true, false, Result, length, take, drop, replicate, ltb, eqb}
use Rattle.octets.specs.Basics.{pick, and, or, Row, row, first}
use Rattle.octets.specs.Refusals.{refusal_of}
use Rattle.octets.specs.declared.refusals.Refusal.{Refusal}
use Rattle.relay.specs.declared.Entry.{Entry}
use Rattle.relay.specs.declared.Table.{Table}

-- an entry is a pair: an APID and a destination
abbrev pub pair : ℕ → ℕ → Entry
pair apid destination = record { apid = apid; destination = destination }

-- whether two entries are the same pair
unfoldable pub same : Entry → Entry → Bool
same a b = and (eqb a.apid b.apid) (eqb a.destination b.destination)

-- whether an entry is among others
unfoldable pub stands : Entry → List Entry → Bool
stands e [] = false
stands e (f ∷ fs) = or (same e f) (stands e fs)

-- whether the same pair is there twice
unfoldable pub twice : List Entry → Bool
twice [] = false
twice (e ∷ es) = or (stands e es) (twice es)

-- whether an APID is above 2,046
unfoldable pub above : List Entry → Bool
above [] = false
above (e ∷ es) = or (ltb 2046 e.apid) (above es)

-- whether no table has these among its entries
unfoldable pub unfit : List Entry → Bool
unfit es = or (above es) (twice es)

-- the refusal of a list of n entries: there are more than 32, an APID is above 2,046, or the same pair is there twice
unfoldable pub load_rows : ℕ → List Entry → List Row
load_rows n es = row 12 (or (ltb 32 n) (unfit es)) ∷ []

-- what stands past the last entry
abbrev pub no_entry : Entry
no_entry = pair 0 0

-- the table of a list
unfoldable pub table_of : List Entry → Table
table_of es = record { count = length es; entries = es ++ replicate (32 - length es) no_entry }

-- the table that has no entry
abbrev pub empty : Table
empty = table_of []

-- the list of a table
abbrev pub entries_of : Table → List Entry
entries_of t = take t.count t.entries

-- what comes of loading: the refusal, or 0, and the table to go on with
pub record Loaded : Type 0 where
  pub refusal : ℕ
  pub table : Table

-- a load that is refused by n leaves the old table
abbrev pub load_refused : ℕ → Table → Loaded
load_refused n old = record { refusal = n; table = old }

-- an answer, and the table as it is left
abbrev pub loads : Result (Unit {0}) Refusal → Table → Loaded
loads answer table = record { refusal = refusal_of answer; table = table }

-- loading the first `count` of the entries that are lent: they take the old table's place, which stays where they are refused
unfoldable pub loading : Table → ℕ → List Entry → Loaded
loading old count lent =
    let es : List Entry = take count lent in
    let refusal : ℕ = first (load_rows count es) in
    record { refusal = refusal; table = pick (eqb refusal 0) (table_of es) old }

-- whether nothing but `no_entry` is there
unfoldable pub clear : List Entry → Bool
clear [] = true
clear (e ∷ es) = and (same e no_entry) (clear es)

-- the tables that loading makes: their lists are not refused, and nothing stands past them
unfoldable pub is_table : Table → Bool
is_table t = and (eqb (first (load_rows t.count (entries_of t))) 0) (clear (drop t.count t.entries))

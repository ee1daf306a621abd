-- The tables that loading leaves in an array are those that routing takes.
-- Assumes nothing.
use Rattle.std.proofs.Common.{◌≡◌, ℕ, zero, suc, ◌+◌, ◌-◌, ◌*◌, ◌/◌, ◌%◌, ◌≤◌, ◌<◌, List, [], ◌∷◌, ◌++◌, true, false, length, take, drop, get_or, replicate, refl, sym, ap, ◌∙◌, arith, length-take, length-append, take-append-drop}
use Rattle.std.proofs.lemmas.Bool.Decides.{nat_tests}
use Rattle.std.proofs.lemmas.List.{length-replicate}
use lib.Seq.{take_all, length-take-le}
use Rattle.octets.specs.Basics.{All, over}
use Rattle.octets.proofs.Fronts.{all_joined}
use Rattle.octets.proofs.Written.{laid_within}
use Rattle.arrays.specs.Arrays.{told}
use Rattle.relay.specs.Table.{pair, no_entry, above, empty, entries_of, is_table, Loaded, loading}
use Rattle.relay.specs.Table as relay
use Rattle.relay.specs.declared.Entry.{Entry}
use Rattle.relay.specs.declared.Table.{Table}
use Rattle.relay.proofs.Tables.{reached, loads, taken, its_refusal, not_refused, past_entries, its_entries}
use Rattle.relay.proofs.Ways.{none_above}
use Rattle.exports.specs.Left.{left}
use Rattle.exports.specs.Relaying.{entry_of, entry_numbers, table_numbers, wide, load_leaves}
use Rattle.exports.specs.Relaying as array
use Rattle.exports.specs.Statements.{TableWords, TablesLoaded}
use Rattle.exports.proofs.Relays.{entries_long}
use Rattle.exports.proofs.Theorems.{table_again}

-- ---- entries that fit

-- an entry with an APID that a table can have is the two numbers
as_stated : (a d : ℕ) → (entry_of a d).apid ≤ 2046 → (entry_of a d ≡ pair a d) × (d ≤ 255)
unfolding entry_of
as_stated a d h = grind (arith, nat_tests)

-- every entry has such an APID
abbrev Low : List Entry → Type 0
Low es = All (λ e. e.apid ≤ 2046) es

low : (es : List Entry) → above es ≡ false → Low es
unfolding above
low [] h = tt
low (e ∷ es) h = let rest = low es in grind (arith, nat_tests)

low_none : (n : ℕ) → Low (replicate n no_entry)
low_none zero = tt
low_none (suc n) = (omega arith, low_none n)

-- the numbers that stated them
numbers_back : (k : ℕ) (xs : List ℕ) → 2 * k ≤ length xs → Low (array.entries_of k xs) → entry_numbers (array.entries_of k xs) ≡ take (2 * k) xs
unfolding array.entries_of entry_numbers
numbers_back zero xs h f = refl
numbers_back (suc k) [] h f = absurd (omega arith)
numbers_back (suc k) (a ∷ []) h f = absurd (omega arith)
numbers_back (suc k) (a ∷ d ∷ xs) h f =
    let e : 2 * suc k ≡ suc (suc (2 * k)) = omega arith in
    grind (arith, nat_tests, e, as_stated a d f.0, numbers_back k xs (omega arith) f.1)

not_wide : (k : ℕ) (xs : List ℕ) → 2 * k ≤ length xs → Low (array.entries_of k xs) → wide (take (2 * k) xs) ≡ false
unfolding array.entries_of wide
not_wide zero xs h f = refl
not_wide (suc k) [] h f = absurd (omega arith)
not_wide (suc k) (a ∷ []) h f = absurd (omega arith)
not_wide (suc k) (a ∷ d ∷ xs) h f =
    let e : 2 * suc k ≡ suc (suc (2 * k)) = omega arith in
    rw e (grind (arith, nat_tests, as_stated a d f.0, not_wide k xs (omega arith) f.1))

-- the first n of k
first_of : (n k : ℕ) (xs : List ℕ) → n ≤ k → take n (array.entries_of k xs) ≡ array.entries_of n xs
unfolding array.entries_of
first_of zero k xs h = refl
first_of (suc n) zero xs h = absurd (omega arith)
first_of (suc n) (suc k) xs h = rw (first_of n k (drop 2 xs) (omega arith))

-- so they are of the numbers of the first n alone
first_again : (n k : ℕ) (xs : List ℕ) → n ≤ k → 2 * n ≤ length xs → take n (array.entries_of k (take (2 * n) xs)) ≡ array.entries_of n xs
unfolding array.entries_of
first_again zero k xs h l = refl
first_again (suc n) zero xs h l = absurd (omega arith)
first_again (suc n) (suc k) [] h l = absurd (omega arith)
first_again (suc n) (suc k) (a ∷ []) h l = absurd (omega arith)
first_again (suc n) (suc k) (a ∷ d ∷ xs) h l =
    let e : 2 * suc n ≡ suc (suc (2 * n)) = omega arith in
    rw (e, first_again n k xs (omega arith) (omega arith))

-- ---- destinations in any entry

wide_anywhere : (ns : List ℕ) (i : ℕ) → 2 * i + 1 < length ns → 255 < get_or ns (2 * i + 1) 0 → wide ns ≡ true
unfolding wide
wide_anywhere [] i h w = absurd (omega arith)
wide_anywhere (a ∷ []) i h w = absurd (omega arith)
wide_anywhere (a ∷ d ∷ ns) zero h w = grind (arith, nat_tests)
wide_anywhere (a ∷ d ∷ ns) (suc i) h w =
    let e : 2 * suc i + 1 ≡ suc (suc (2 * i + 1)) = omega arith in
    grind (arith, nat_tests, wide_anywhere ns i (omega arith) (rw e at w))

not_wide_anywhere : (ns : List ℕ) → ((i : ℕ) → 2 * i + 1 < length ns → get_or ns (2 * i + 1) 0 ≤ 255) → wide ns ≡ false
unfolding wide
not_wide_anywhere [] n = refl
not_wide_anywhere (a ∷ []) n = refl
not_wide_anywhere (a ∷ d ∷ ns) n = grind (arith, nat_tests, n 0 (omega arith), not_wide_anywhere ns later)
  where
    later : (i : ℕ) → 2 * i + 1 < length ns → get_or ns (2 * i + 1) 0 ≤ 255
    later i h = let e : 2 * suc i + 1 ≡ suc (suc (2 * i + 1)) = omega arith in rw e at (n (suc i) (omega arith))

-- ---- a table in its array that passes

table_low : (t : Table) → is_table t ≡ true → Low t.entries
table_low t e =
    let past : Low (drop t.count t.entries) = rw (past_entries t e) (low_none (length (drop t.count t.entries))) in
    rw take-append-drop at (all_joined (λ (x : Entry). x.apid ≤ 2046) (entries_of t) (drop t.count t.entries) (low (entries_of t) (none_above (entries_of t) (its_entries t e).1)) past)

-- loading goes by the entries that count
loading_alike : (old : Table) (n : ℕ) (es fs : List Entry) → take n es ≡ take n fs → loading old n es ≡ loading old n fs
unfolding loading
loading_alike old n es fs e = rw e

told_same : (ns : List ℕ) → 65 ≤ length ns → told ns (take 65 ns) ≡ ns
unfolding over
told_same ns h =
    let long : length (take 65 ns) ≡ 65 = length-take-le 65 ns h in
    laid_within ns 0 (take 65 ns) (omega arith) ∙ rw long (take-append-drop 65 ns)

module _ (n : ℕ) (xs : List ℕ) (h : 64 ≤ length xs) (e : is_table (array.table_of (n ∷ xs)) ≡ true) where
  few : n ≤ 32
  unfolding array.table_of
  few = (its_entries (array.table_of (n ∷ xs)) e).0

  listed_long : length (take (2 * n) xs) ≡ 2 * n
  listed_long = length-take-le (2 * n) xs (omega (arith, few))

  all_low : Low (array.entries_of 32 xs)
  unfolding array.table_of
  all_low = table_low (array.table_of (n ∷ xs)) e

  first_low : Low (array.entries_of n xs)
  unfolding array.table_of
  first_low =
      rw (first_of n 32 xs few) at
      (low (take n (array.entries_of 32 xs)) (none_above (take n (array.entries_of 32 xs)) (its_entries (array.table_of (n ∷ xs)) e).1))

  loaded : loading empty n (array.entries_of 32 (take (2 * n) xs)) ≡ record { refusal = 0; table = array.table_of (n ∷ xs) }
  unfolding array.table_of
  loaded =
      loading_alike empty n (array.entries_of 32 (take (2 * n) xs)) (array.entries_of 32 xs)
      (first_again n 32 xs few (omega (arith, few)) ∙ sym (first_of n 32 xs few))
      ∙ reached (array.table_of (n ∷ xs)) (entries_long 32 xs) e empty

  numbers : table_numbers (array.table_of (n ∷ xs)) ≡ take 65 (n ∷ xs)
  unfolding array.table_of table_numbers
  numbers = ap (λ (l : List ℕ). n ∷ l) (numbers_back 32 xs h all_low)

  loaded_again : load_leaves (take (2 * n) xs) (n ∷ xs) ≡ left 0 (n ∷ xs) [] []
  unfolding load_leaves
  loaded_again =
      let even : (2 * n) % 2 ≡ 0 = omega arith in
      let half : (2 * n) / 2 ≡ n = omega arith in
      let narrow = not_wide n xs (omega (arith, few)) first_low in
      grind (arith, nat_tests, listed_long, even, half, narrow, loaded, numbers, told_same (n ∷ xs))

-- ---- a table that is loaded: its numbers are those of the list, and zeros behind them

numbers_joined : (es fs : List Entry) → entry_numbers (es ++ fs) ≡ entry_numbers es ++ entry_numbers fs
unfolding entry_numbers
numbers_joined [] fs = refl
numbers_joined (e ∷ es) fs = rw (numbers_joined es fs)

numbers_none : (k : ℕ) → entry_numbers (replicate k no_entry) ≡ replicate (2 * k) 0
unfolding entry_numbers
numbers_none zero = refl
numbers_none (suc k) = let e : 2 * suc k ≡ suc (suc (2 * k)) = omega arith in rw (e, numbers_none k)

-- the list's own numbers, for n entries
listed_numbers : (n : ℕ) (entries : List ℕ) → length entries ≡ 2 * n → n ≤ 32 → Low (array.entries_of n entries)
    → table_numbers (relay.table_of (take n (array.entries_of 32 entries))) ≡ n ∷ (entries ++ replicate (64 - length entries) 0)
unfolding relay.table_of table_numbers
listed_numbers n entries long few fits =
    let some : List Entry = array.entries_of n entries in
    let count : length some ≡ n = entries_long n entries in
    let own : entry_numbers some ≡ entries = numbers_back n entries (omega arith) fits ∙ take_all (2 * n) entries (omega arith) in
    let zeros : 2 * (32 - n) ≡ 64 - length entries = omega arith in
    rw (first_of n 32 entries few, count, numbers_joined some (replicate (32 - n) no_entry), own, numbers_none (32 - n), zeros)

-- ---- and it passes

-- an APID of 16 bits and a destination of 8
abbrev Words : List Entry → Type 0
Words es = All (λ e. (e.apid ≤ 65535) × (e.destination ≤ 255)) es

word : (a d : ℕ) → ((entry_of a d).apid ≤ 65535) × ((entry_of a d).destination ≤ 255)
unfolding entry_of
word a d = grind (arith, nat_tests)

words : (k : ℕ) (xs : List ℕ) → Words (array.entries_of k xs)
unfolding array.entries_of
words zero xs = tt
words (suc k) xs = (word (get_or xs 0 0) (get_or xs 1 0), words k (drop 2 xs))

words_taken : (n : ℕ) (es : List Entry) → Words es → Words (take n es)
words_taken zero es w = tt
words_taken (suc n) [] w = tt
words_taken (suc n) (e ∷ es) w = (w.0, words_taken n es w.1)

words_none : (n : ℕ) → Words (replicate n no_entry)
words_none zero = tt
words_none (suc n) = ((omega arith, omega arith), words_none n)

made_words : (n : ℕ) (es : List Entry) → length es ≡ 32 → Words es → TableWords (relay.table_of (take n es))
unfolding relay.table_of
made_words n es long w =
    let short : length (take n es) ≤ 32 = simp length-take (omega arith) in (
      simp (length-append, length-replicate) (omega arith),
      all_joined (λ (e : Entry). (e.apid ≤ 65535) × (e.destination ≤ 255)) (take n es) _ (words_taken n es w) (words_none (32 - length (take n es))),
    )

module _ (entries table : List ℕ) where
  abbrev made : Loaded
  made = loading empty (length entries / 2) (array.entries_of 32 entries)

  none_refused : made.refusal ≡ 0 → made ≡ record { refusal = 0; table = relay.table_of (take (length entries / 2) (array.entries_of 32 entries)) }
  none_refused e = taken empty (length entries / 2) (array.entries_of 32 entries) (sym (its_refusal empty (length entries / 2) (array.entries_of 32 entries)) ∙ e)

  loaded_numbers : length entries % 2 ≡ 0 → made.refusal ≡ 0
      → table_numbers made.table ≡ length entries / 2 ∷ (entries ++ replicate (64 - length entries) 0)
  loaded_numbers even e =
      let n : ℕ = length entries / 2 in
      let lent : List Entry = array.entries_of 32 entries in
      let few = not_refused n (take n lent) (sym (its_refusal empty n lent) ∙ e) in
      let fits : Low (array.entries_of n entries) = rw (first_of n 32 entries few.0) at (low (take n lent) (none_above (take n lent) few.1)) in
      ap (λ (l : Loaded). table_numbers l.table) (none_refused e) ∙ listed_numbers n entries (omega arith) few.0 fits

  loaded_table : 65 ≤ length table → made.refusal ≡ 0 → is_table (array.table_of (told table (table_numbers made.table))) ≡ true
  loaded_table h e =
      let n : ℕ = length entries / 2 in
      let lent : List Entry = array.entries_of 32 entries in
      let is : made.table ≡ relay.table_of (take n lent) = ap (λ (l : Loaded). l.table) (none_refused e) in
      ap is_table (table_again table made.table h (rw is (made_words n lent (entries_long 32 entries) (words 32 entries))))
      ∙ (loads empty n lent).passes e

  loaded_holds : (load_leaves entries table).refusal ≡ 0
      → (load_leaves entries table).numbers ≡ told table (length entries / 2 ∷ (entries ++ replicate (64 - length entries) 0))
  unfolding load_leaves
  loaded_holds e = grind (arith, nat_tests, loaded_numbers)

  loaded_passes : (load_leaves entries table).refusal ≡ 0 → is_table (array.table_of (load_leaves entries table).numbers) ≡ true
  unfolding load_leaves
  loaded_passes e = grind (arith, nat_tests, loaded_table)

pub tables_loaded : TablesLoaded
tables_loaded = record { holds = loaded_holds; passes = loaded_passes; again = loaded_again; wide = wide_anywhere; narrow = not_wide_anywhere }

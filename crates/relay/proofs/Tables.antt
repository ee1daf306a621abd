-- Tables: what is loaded, and which tables loading makes.
-- Assumes nothing.
use mathlib.Core.Path.{◌≡◌, refl, sym, ap, ap₂, ◌∙◌}
use mathlib.Core.List.{List, [], ◌∷◌, ◌++◌, append-nil}
use mathlib.Core.Bool.{true, false}
use Prim.Native.Nat.{ℕ, zero, suc, ◌+◌, ◌-◌, ◌≤◌, ◌<◌}
use native.Mathlib.Omega.{arith}
use lib.ListN.{length, take, drop, replicate, length-replicate, length-take, length-drop, take-append-drop, drop_of_length-le}
use borrow.Rule.Slice.PartMut.{put_mid}
use Rattle.std.proofs.lemmas.Slice.{put_mid-paste}
use lib.Seq.{length-take-le, take_all, take-append_seam, drop-append_seam}
use lib.Dec.{ltb}
use borrow.Author.Tests.{eqb-true, ne_eqb, ltb-false, lt-ltb, le-ltb}
use Rattle.octets.specs.Basics.{first}
use Rattle.octets.proofs.Tests.{and_both, or_all}
use Rattle.octets.proofs.Choices.{and_true, or_false, none_holds}
use Rattle.relay.specs.Table.{unfit, load_rows, no_entry, clear, table_of, entries_of, is_table, loading}
use Rattle.relay.specs.Laws.{Loads, Reached}
use Rattle.relay.specs.declared.Entry.{Entry}
use Rattle.relay.specs.declared.Table.{Table}
use Rattle.relay.proofs.Entries.{same_true, true_same, fit_entries, entries_fit}

-- ---- the refusal

-- a list of too many entries is refused, and one that is unfit; any other is not
pub too_many : (n : ℕ) (es : List Entry) → 32 < n → first (load_rows n es) ≡ 12
unfolding load_rows first
too_many n es h = rw (lt-ltb 32 n h) refl

pub not_loadable : (n : ℕ) (es : List Entry) → unfit es ≡ true → first (load_rows n es) ≡ 12
unfolding load_rows first
not_loadable n es u = rw (u, or_all (ltb 32 n)) refl

pub loadable : (n : ℕ) (es : List Entry) → n ≤ 32 → unfit es ≡ false → first (load_rows n es) ≡ 0
unfolding load_rows first
loadable n es h u = rw (le-ltb 32 n h, u) refl

pub not_refused : (n : ℕ) (es : List Entry) → first (load_rows n es) ≡ 0 → (n ≤ 32) × (unfit es ≡ false)
unfolding load_rows
not_refused n es e =
    let k = or_false _ _ (none_holds 11 _ [] e).0 in
    (ltb-false 32 n k.0, k.1)

-- ---- nothing past the entries

clear_none : (n : ℕ) → clear (replicate n no_entry) ≡ true
unfolding clear
clear_none zero = refl
clear_none (suc n) = and_both (true_same no_entry) (clear_none n)

none_clear : (es : List Entry) → clear es ≡ true → es ≡ replicate (length es) no_entry
unfolding clear
none_clear [] h = refl
none_clear (e ∷ es) h = let k = and_true _ _ h in ap₂ ◌∷◌ (same_true e no_entry k.0) (none_clear es k.1)

-- ---- loading

pub taken : (old : Table) (count : ℕ) (lent : List Entry) → first (load_rows count (take count lent)) ≡ 0
    → loading old count lent ≡ record { refusal = 0; table = table_of (take count lent) }
unfolding loading
taken old count lent e = rw e refl

pub not_taken : (old : Table) (count : ℕ) (lent : List Entry) → (first (load_rows count (take count lent)) ≡ 0 → ⊥)
    → loading old count lent ≡ record { refusal = first (load_rows count (take count lent)); table = old }
unfolding loading
not_taken old count lent e = rw (ne_eqb _ 0 e) refl

-- its numbers, for a list of entries that are there
pub table_made : (count : ℕ) (lent : List Entry) → count ≤ length lent
    → table_of (take count lent) ≡ record { count = count; entries = take count lent ++ replicate (32 - count) no_entry }
unfolding table_of
table_made count lent h = rw (length-take-le count lent h) refl

-- what stands past them is filled
pub table_filled : (count : ℕ) (lent past : List Entry) → length lent ≡ 32 → count ≤ 32 → past ≡ replicate (32 - count) no_entry
    → put_mid count (32 - count) lent past ≡ take count lent ++ replicate (32 - count) no_entry
table_filled count lent past long few e =
    let room : ℕ = 32 - count in
    let filling : List Entry = replicate (32 - count) no_entry in
    let many : length filling ≡ 32 - count = length-replicate (32 - count) no_entry in
    let past_end : drop (count + room) lent ≡ [] = drop_of_length-le lent (omega arith) in
    put_mid-paste count room lent past filling room e refl (omega (arith, many, long))
    ∙ rw (take_all room filling (omega (arith, many, long)), past_end, append-nil (take count lent ++ filling)) refl

pub its_refusal : (old : Table) (count : ℕ) (lent : List Entry) → (loading old count lent).refusal ≡ first (load_rows count (take count lent))
unfolding loading
its_refusal old count lent = refl

entries_back : (es : List Entry) → entries_of (table_of es) ≡ es
unfolding table_of
entries_back es = take-append_seam es (replicate (32 - length es) no_entry)

past_clear : (es : List Entry) → clear (drop (length es) (table_of es).entries) ≡ true
unfolding table_of
past_clear es = rw (drop-append_seam es (replicate (32 - length es) no_entry)) (clear_none (32 - length es))

its_count : (es : List Entry) → (table_of es).count ≡ length es
unfolding table_of
its_count es = refl

made : (es : List Entry) → first (load_rows (length es) es) ≡ 0 → is_table (table_of es) ≡ true
unfolding is_table
made es e = rw (entries_back es, its_count es, e) (past_clear es)

pub loads : (old : Table) (count : ℕ) (lent : List Entry) → Loads old count lent
unfolding loading
loads old count lent = record {
  fit = λ e. let k = not_refused count (take count lent) e in fit_entries count (take count lent) k.0 k.1;
  unfit = λ f. loadable count (take count lent) f.few (entries_fit count (take count lent) f);
  holds = λ e. ap (λ l. entries_of l.table) (taken old count lent e) ∙ entries_back (take count lent);
  passes = λ e. ap (λ l. is_table l.table) (taken old count lent e) ∙ made (take count lent) (shorter e);
  last = λ e older. taken older count lent e ∙ sym (taken old count lent e);
  kept = λ h. ap (λ l. l.table) (not_taken old count lent h);
}
  where
    shorter : first (load_rows count (take count lent)) ≡ 0 → first (load_rows (length (take count lent)) (take count lent)) ≡ 0
    shorter e =
        let k = not_refused count (take count lent) e in
        loadable _ _ (simp length-take (omega arith)) k.1

passing : (t : Table) → is_table t ≡ true → (first (load_rows t.count (entries_of t)) ≡ 0) × (clear (drop t.count t.entries) ≡ true)
unfolding is_table
passing t e = let k = and_true _ _ e in (eqb-true _ 0 k.0, k.1)

-- what a table that passes says of its entries
pub its_entries : (t : Table) → is_table t ≡ true → (t.count ≤ 32) × (unfit (entries_of t) ≡ false)
its_entries t e = not_refused t.count (entries_of t) (passing t e).0

pub few_entries : (t : Table) → is_table t ≡ true → t.count ≤ 32
few_entries t e = (its_entries t e).0

-- and of what stands past them
pub past_entries : (t : Table) → is_table t ≡ true → drop t.count t.entries ≡ replicate (length (drop t.count t.entries)) no_entry
past_entries t e = none_clear (drop t.count t.entries) (passing t e).1

-- a table that passes is that of its own entries
table_back : (t : Table) → length t.entries ≡ 32 → is_table t ≡ true → table_of (entries_of t) ≡ t
unfolding table_of
table_back t long e =
    let h : t.count ≤ 32 = (its_entries t e).0 in
    let n : length (entries_of t) ≡ t.count = length-take-le t.count t.entries (omega arith) in
    let m : length (drop t.count t.entries) ≡ 32 - t.count = simp length-drop (omega arith) in
    let rest : replicate (32 - length (entries_of t)) no_entry ≡ drop t.count t.entries =
    ap (λ (k : ℕ). replicate k no_entry) (ap (λ (k : ℕ). 32 - k) n ∙ sym m) ∙ sym (past_entries t e) in
    let entries : entries_of t ++ replicate (32 - length (entries_of t)) no_entry ≡ t.entries =
    ap (λ (es : List Entry). entries_of t ++ es) rest ∙ take-append-drop t.count t.entries in
    ap₂ (λ (k : ℕ) (es : List Entry). record { count = k; entries = es }) n entries

pub reached : (t : Table) → Reached t
reached t long e old =
    taken old t.count t.entries (passing t e).0 ∙ ap (λ (u : Table). record { refusal = 0; table = u }) (table_back t long e)

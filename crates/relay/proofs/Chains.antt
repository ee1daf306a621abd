-- The loops and chains over entries, in the words of tables and routes.
-- Assumes nothing.
use Rattle.std.proofs.Common.{◌≡◌, ℕ, ◌+◌, ◌-◌, ◌<◌, ◌≤◌, Bool, true, false, ◌&&◌, ◌||◌, List, [], ◌∷◌, length, ◌++◌, get_or, set, take, drop, map, zero-add, append_assoc, arith, eqb, ltb, Option, Some, None, refl, sym, ap, ap₂, ◌∙◌}
use Rattle.std.specs.List.{list_any, list_all, filter, enumerate_from}
use Rattle.std.proofs.lemmas.List.{drop_more, drop_all, take_rest, set_at, length-map}
use Rattle.std.proofs.lemmas.List.FromFn.{length-enumerate_from, get_or-enumerate_from}
use borrow.Author.Tests.{lt-ltb, le-ltb}
use Rattle.std.specs.Iterator.{Yields}
use Rattle.std.proofs.lemmas.Iterator.{YieldsList}
use Rattle.std.proofs.lemmas.Iterator.Consumers.{YieldsList-turn, YieldsList-end}
use Rattle.octets.specs.Basics.{and, or}
use Rattle.octets.proofs.Tests.{test, or_all}
use Rattle.octets.proofs.Choices.{eqb_iff}
use Rattle.relay.specs.Table.{same, stands, above, twice, unfit, no_entry, clear}
use Rattle.relay.specs.Route.{destinations}
use Rattle.relay.specs.declared.Entry.{Entry}

-- the equality of entries as `==` has it
abbrev pub equal : Entry → Entry → Bool
equal a b = eqb a.apid b.apid && eqb a.destination b.destination

pub same_equal : (a b : Entry) → same a b ≡ equal a b
unfolding same
same_equal a b = test (eqb a.apid b.apid) (λ t. rw t refl) (λ t. rw t refl)

same_turned : (a b : Entry) → same a b ≡ same b a
unfolding same
same_turned a b = ap₂ and (eqb_iff a.apid b.apid b.apid a.apid sym sym) (eqb_iff a.destination b.destination b.destination a.destination sym sym)

or_also : (a b : Bool) → or a b ≡ (a || b)
or_also true b = refl
or_also false b = refl

and_also : (a b : Bool) → and a b ≡ (a && b)
and_also true b = refl
and_also false b = refl

pub stands_any : (e : Entry) (es : List Entry) → stands e es ≡ list_any (λ f. equal f e) es
unfolding stands
stands_any e [] = refl
stands_any e (f ∷ fs) = ap₂ or (same_turned e f ∙ same_equal f e) (stands_any e fs) ∙ or_also (equal f e) (list_any (λ g. equal g e) fs)

pub clear_all : (es : List Entry) → clear es ≡ list_all (λ e. equal e no_entry) es
unfolding clear
clear_all [] = refl
clear_all (e ∷ es) = ap₂ and (same_equal e no_entry) (clear_all es) ∙ and_also (equal e no_entry) (list_all (λ f. equal f no_entry) es)

-- the entry at i, and those behind it
pub unfit_at : (es : List Entry) (i : ℕ) → i < length es
    → unfit (drop i es)
    ≡ or (or (ltb 2046 (get_or es i no_entry).apid) (stands (get_or es i no_entry) (drop (i + 1) es))) (unfit (drop (i + 1) es))
unfolding unfit above twice
unfit_at es i h =
    rw (drop_more es i no_entry h)
    (apart (ltb 2046 (get_or es i no_entry).apid) (above (drop (i + 1) es)) (stands (get_or es i no_entry) (drop (i + 1) es)) (twice (drop (i + 1) es)))
  where
    apart : (a b c d : Bool) → or (or a b) (or c d) ≡ or (or a c) (or b d)
    apart true b c d = refl
    apart false true true d = refl
    apart false true false d = refl
    apart false false c d = refl

-- the entry at i is above 2,046, is there again, or is neither
module _ (es : List Entry) (i : ℕ) (h : i < length es) where
  pub unfit_above : 2046 < (get_or es i no_entry).apid → unfit (drop i es) ≡ true
  unfit_above k = unfit_at es i h ∙ rw (lt-ltb 2046 (get_or es i no_entry).apid k) refl

  module _ {again : Bool} (q : again ≡ stands (get_or es i no_entry) (take (length es - (i + 1)) (drop (i + 1) es))) where
    behind : stands (get_or es i no_entry) (drop (i + 1) es) ≡ again
    behind = sym (rw (take_rest es (i + 1)) at q)

    pub unfit_again : again ≡ true → unfit (drop i es) ≡ true
    unfit_again k = unfit_at es i h ∙ rw (behind, k, or_all (ltb 2046 (get_or es i no_entry).apid)) refl

    pub unfit_behind : (get_or es i no_entry).apid ≤ 2046 → again ≡ false → unfit (drop i es) ≡ unfit (drop (i + 1) es)
    unfit_behind k l = unfit_at es i h ∙ rw (le-ltb 2046 (get_or es i no_entry).apid k, behind, l) refl

pub unfit_none : (es : List Entry) (i : ℕ) → length es ≤ i → unfit (drop i es) ≡ false
unfolding unfit above twice
unfit_none es i h = rw (drop_all i es h) refl

-- the entries with an APID, and the destinations that they name
pub destinations_filtered : (apid : ℕ) (es : List Entry) → destinations apid es ≡ map (λ e. e.destination) (filter (λ e. eqb e.apid apid) es)
unfolding destinations
destinations_filtered apid [] = refl
destinations_filtered apid (e ∷ es) =
    test (eqb e.apid apid) (λ t. rw t (ap (λ ds. e.destination ∷ ds) (destinations_filtered apid es))) (λ t. rw t (destinations_filtered apid es))

pub destinations_counted : (apid : ℕ) (es : List Entry) → length (filter (λ e. eqb e.apid apid) es) ≡ length (destinations apid es)
destinations_counted apid es =
    sym (length-map (filter (λ e. eqb e.apid apid) es) (λ e. e.destination)) ∙ ap length (sym (destinations_filtered apid es))

-- `YieldsList-turn`, the chain last, so that what it goes by is known when its closures are looked at
pub turn : {S A B : Type 0} {steps : S → Option A → S → Type 0} {v : A → B} {s : S} {all : List B} (xs : List A) (t : S) → Yields steps s xs t
    → (r : Option A) (u : S) (x : A) → r ≡ Some x → steps t r u → YieldsList steps v s all
    → (length xs < length all) × (v x ≡ get_or all (length xs) (v x))
turn xs t y r u x is step road = YieldsList-turn road xs t y r u x is step

pub end : {S A B : Type 0} {steps : S → Option A → S → Type 0} {v : A → B} {s : S} {all : List B} (xs : List A) (t : S) → Yields steps s xs t
    → (r : Option A) (u : S) → r ≡ None → steps t r u → YieldsList steps v s all → map v xs ≡ all
end xs t y r u is step road = (YieldsList-end road xs t y r u is step).0

-- a turn of the loop that writes the destinations, and its end
module _ (apid : ℕ) (es : List Entry) where
  abbrev named : List ℕ
  named = map (λ e. e.destination) (filter (λ e. eqb e.apid apid) es)

  pub named_turn : (n : ℕ) (x : ℕ × ℕ) → (n < length (enumerate_from 0 named)) × (x ≡ get_or (enumerate_from 0 named) n x)
      → (x.0 ≡ n) × (n < length (destinations apid es))
  named_turn n x h =
      let many = length-enumerate_from 0 named in
      let here : n < length named = omega (arith, h.0, many) in
      let it = h.1 ∙ get_or-enumerate_from 0 named n x here in
      (ap (λ (p : ℕ × ℕ). p.0) it ∙ zero-add n, rw (destinations_filtered apid es) here)

  pub named_end : (xs : List (ℕ × ℕ)) → map (λ p. (p.0, p.1)) xs ≡ enumerate_from 0 named → map (λ p. p.1) xs ≡ destinations apid es
  named_end xs h = without xs named 0 h ∙ sym (destinations_filtered apid es)
    where
      without : (xs : List (ℕ × ℕ)) (ds : List ℕ) (n : ℕ) → map (λ p. (p.0, p.1)) xs ≡ enumerate_from n ds → map (λ p. p.1) xs ≡ ds
      without [] [] n h = refl
      without [] (d ∷ ds) n h = cc
      without (x ∷ xs) [] n h = cc
      without (x ∷ xs) (d ∷ ds) n h = ap₂ ◌∷◌ (cc) (without xs ds (n + 1) (cc))

pub one_written : (ds out : List ℕ) (n d : ℕ) → length ds ≡ n → n < length out → set (ds ++ drop n out) n d ≡ (ds ++ d ∷ []) ++ drop (n + 1) out
one_written ds out n d e h =
    rw (drop_more out n 0 h, set_at ds (get_or out n 0) (drop (n + 1) out) d n e, append_assoc ds (d ∷ []) (drop (n + 1) out)) refl

-- Entries among others, and the destinations that they name.
-- Assumes nothing.
use mathlib.Core.Path.{◌≡◌, refl, sym, ap, ap₂, ◌∙◌}
use mathlib.Core.Logic.{⊎_elim}
use mathlib.Core.List.Memᴰ
use mathlib.Core.List.{List, [], ◌∷◌, ◌++◌, Memᴰ}
use mathlib.Core.Bool.{true, false}
use Prim.Native.Nat.{ℕ, ◌≤◌}
use native.Mathlib.Omega.{arith}
use lib.Dec.{eqb}
use borrow.Author.Tests.{eqb-true, eqb-false, eq-eqb, ne_eqb, ltb-false, le-ltb}
use Rattle.octets.proofs.Tests.{test, and_both, or_all}
use Rattle.octets.proofs.Choices.{and_true, or_true, or_false, apart}
use Rattle.relay.specs.Table.{pair, same, stands, twice, above, unfit}
use Rattle.relay.specs.Route.{destinations}
use Rattle.relay.specs.Laws.{Fit, Destines}
use Rattle.relay.specs.declared.Entry.{Entry}

pub same_true : (a b : Entry) → same a b ≡ true → a ≡ b
unfolding same
same_true a b e = let h = and_true _ _ e in ap₂ pair (eqb-true _ _ h.0) (eqb-true _ _ h.1)

pub true_same : (a : Entry) → same a a ≡ true
unfolding same
true_same a = and_both (eq-eqb a.apid a.apid refl) (eq-eqb a.destination a.destination refl)

stands_there : (e : Entry) (es : List Entry) → Memᴰ e es → stands e es ≡ true
unfolding stands
stands_there e [] m = absurd (Memᴰ.not-nil m)
stands_there e (f ∷ fs) m =
    ⊎_elim (λ q. rw (← q, true_same e) refl) (λ n. rw (stands_there e fs n) (or_all (same e f))) (Memᴰ.cases_cons m)

-- no APID above 2,046, and no pair at two places
apids_within : (es : List Entry) → above es ≡ false → (e : Entry) → Memᴰ e es → e.apid ≤ 2046
unfolding above
apids_within [] h e m = absurd (Memᴰ.not-nil m)
apids_within (f ∷ es) h e m =
    let k = or_false _ _ h in
    ⊎_elim (λ (q : e ≡ f). let own : e.apid ≡ f.apid = ap (λ (g : Entry). g.apid) q in rw own (ltb-false 2046 f.apid k.0)) (λ n. apids_within es k.1 e n) (Memᴰ.cases_cons m)

within_apids : (es : List Entry) → ((e : Entry) → Memᴰ e es → e.apid ≤ 2046) → above es ≡ false
unfolding above
within_apids [] h = refl
within_apids (f ∷ es) h = rw (le-ltb 2046 f.apid (h f (Memᴰ.head refl)), within_apids es (λ e m. h e (Memᴰ.tail m))) refl

none_twice : (es : List Entry) → twice es ≡ false → (before after : List Entry) (e : Entry) → es ≡ before ++ (e ∷ after) → Memᴰ e after → ⊥
unfolding twice
none_twice [] h [] after e q m = apart (cc)
none_twice [] h (b ∷ before) after e q m = apart (cc)
none_twice (f ∷ es) h [] after e q m =
    let k = or_false (stands f es) (twice es) h in
    let rest : es ≡ after = cc in
    let own : f ≡ e = cc in
    let there : stands f es ≡ true = stands_there f es (rw (own, rest) m) in
    let no : true ≡ false = sym there ∙ k.0 in
    apart (cc)
none_twice (f ∷ es) h (b ∷ before) after e q m = none_twice es (or_false (stands f es) (twice es) h).1 before after e (cc) m

there_stands : (e : Entry) (es : List Entry) → stands e es ≡ true → Memᴰ e es
unfolding stands
there_stands e [] h = apart (cc)
there_stands e (f ∷ fs) h = ⊎_elim (λ s. Memᴰ.head (same_true e f s)) (λ s. Memᴰ.tail (there_stands e fs s)) (or_true (same e f) (stands e fs) h)

twice_none : (es : List Entry) → ((before after : List Entry) (e : Entry) → es ≡ before ++ (e ∷ after) → Memᴰ e after → ⊥) → twice es ≡ false
unfolding twice
twice_none [] h = refl
twice_none (f ∷ es) h =
    let one : stands f es ≡ false = test (stands f es) (λ t. absurd (h [] es f refl (there_stands f es t))) (λ t. t) in
    rw (one, twice_none es (λ before after e q m. h (f ∷ before) after e (ap (λ l. f ∷ l) q) m)) refl

pub fit_entries : (count : ℕ) (es : List Entry) → count ≤ 32 → unfit es ≡ false → Fit count es
unfolding unfit
fit_entries count es n u =
    let k = or_false _ _ u in
    record { few = n; apids = apids_within es k.0; pairs = none_twice es k.1 }

pub entries_fit : (count : ℕ) (es : List Entry) → Fit count es → unfit es ≡ false
unfolding unfit
entries_fit count es f = rw (within_apids es f.apids, twice_none es f.pairs) refl

-- ---- destinations

-- an entry with the APID gives its destination, and any other gives none
pub given : (apid : ℕ) (e : Entry) (es : List Entry) → e.apid ≡ apid → destinations apid (e ∷ es) ≡ e.destination ∷ destinations apid es
unfolding destinations
given apid e es h = rw (eq-eqb e.apid apid h) refl

pub passed : (apid : ℕ) (e : Entry) (es : List Entry) → (e.apid ≡ apid → ⊥) → destinations apid (e ∷ es) ≡ destinations apid es
unfolding destinations
passed apid e es h = rw (ne_eqb e.apid apid h) refl

-- the two cases
by_apid : {X : Type 0} (apid : ℕ) (e : Entry) → (e.apid ≡ apid → X) → ((e.apid ≡ apid → ⊥) → X) → X
by_apid apid e f g = test (eqb e.apid apid) (λ t. f (eqb-true _ _ t)) (λ t. g (eqb-false _ _ t))

pub in_order : (apid : ℕ) (es more : List Entry) → destinations apid (es ++ more) ≡ destinations apid es ++ destinations apid more
unfolding destinations
in_order apid [] more = refl
in_order apid (e ∷ es) more =
    by_apid apid e
    (λ h. given apid e (es ++ more) h ∙ ap (λ ds. e.destination ∷ ds) (in_order apid es more) ∙ ap (λ ds. ds ++ destinations apid more) (sym (given apid e es h)))
    (λ h. passed apid e (es ++ more) h ∙ in_order apid es more ∙ ap (λ ds. ds ++ destinations apid more) (sym (passed apid e es h)))

-- no entry of a table is for idle packets
pub none_idle : (es : List Entry) → above es ≡ false → destinations 2047 es ≡ []
unfolding above destinations
none_idle [] h = refl
none_idle (e ∷ es) h =
    let k = or_false _ _ h in
    let l : e.apid ≤ 2046 = ltb-false 2046 e.apid k.0 in
    passed 2047 e es (λ q. omega arith) ∙ none_idle es k.1

module _ (apid : ℕ) where
  each : (d : ℕ) (es : List Entry) → Memᴰ (pair apid d) es → Memᴰ d (destinations apid es)
  each d [] m = absurd (Memᴰ.not-nil m)
  each d (e ∷ es) m =
      ⊎_elim
      (λ (q : pair apid d ≡ e).
      let own : e.apid ≡ apid = sym (ap (λ (f : Entry). f.apid) q) in
      rw (given apid e es own) (Memᴰ.head (ap (λ (f : Entry). f.destination) q)))
      (λ n. by_apid apid e (λ h. rw (given apid e es h) (Memᴰ.tail (each d es n))) (λ h. rw (passed apid e es h) (each d es n)))
      (Memᴰ.cases_cons m)

  no_other : (d : ℕ) (es : List Entry) → Memᴰ d (destinations apid es) → Memᴰ (pair apid d) es
  unfolding destinations
  no_other d [] m = absurd (Memᴰ.not-nil m)
  no_other d (e ∷ es) m =
      by_apid apid e
      (λ h. ⊎_elim (λ q. Memᴰ.head (ap₂ pair (sym h) q)) (λ n. Memᴰ.tail (no_other d es n))
      (Memᴰ.cases_cons (rw (given apid e es h) at m)))
      (λ h. Memᴰ.tail (no_other d es (rw (passed apid e es h) at m)))

  -- an entry behind which its own destination is given stands twice
  first_given : (e : Entry) (es : List Entry) (d : ℕ) → e.apid ≡ apid → e.destination ≡ d → Memᴰ d (destinations apid es) → stands e es ≡ true
  first_given e es d h q m = stands_there e es (Memᴰ.cast (ap₂ pair h q) (no_other d es m))

  once : (es : List Entry) → twice es ≡ false → (before after : List ℕ) (d : ℕ) → destinations apid es ≡ before ++ (d ∷ after) → Memᴰ d after → ⊥
  unfolding twice destinations
  once [] t [] after d q m = apart (cc)
  once [] t (b ∷ before) after d q m = apart (cc)
  once (e ∷ es) t [] after d q m =
      by_apid apid e
      (λ h.
      let g : e.destination ∷ destinations apid es ≡ d ∷ after = sym (given apid e es h) ∙ q in
      let rest : destinations apid es ≡ after = cc in
      let own : e.destination ≡ d = cc in
      let no : true ≡ false = sym (first_given e es d h own (rw rest m)) ∙ (or_false (stands e es) (twice es) t).0 in
      apart (cc))
      (λ h. once es (or_false (stands e es) (twice es) t).1 [] after d (sym (passed apid e es h) ∙ q) m)
  once (e ∷ es) t (b ∷ before) after d q m =
      by_apid apid e
      (λ h.
      let g : e.destination ∷ destinations apid es ≡ b ∷ (before ++ (d ∷ after)) = sym (given apid e es h) ∙ q in
      once es (or_false (stands e es) (twice es) t).1 before after d (cc) m)
      (λ h. once es (or_false (stands e es) (twice es) t).1 (b ∷ before) after d (sym (passed apid e es h) ∙ q) m)

  pub destines : (es : List Entry) → Destines apid es
  destines es = record {
    each = λ d. each d es;
    no_other = λ d. no_other d es;
    once = once es;
    in_order = in_order apid es;
  }

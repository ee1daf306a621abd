-- One law for every call whose promise gives its answer in numbers, and one for those that write octets by their refusal.
-- Assumes nothing.
use Prim.Native.Nat.{ℕ}
use mathlib.Core.Path.{◌≡◌, refl, sym, ap, ◌∙◌}
use mathlib.Core.List.{List}
use mathlib.Core.Bool.{Bool, true, false}
use lib.Dec.{eqb}
use borrow.Author.Tests.{ne_eqb}
use Rattle.octets.specs.Basics.{pick, Row, first}
use Rattle.octets.specs.Refusals.{refusal_of}
use Rattle.octets.proofs.ByNumber.{same_refusal}
use Rattle.octets.proofs.Choices.{refusal_kept}
use Rattle.demands.specs.Promises.{Left, Contract, as_read, Gives, Is, Promised, numbered, Writes}

-- what a call is given: what is done where no row holds, and the refusal where one does
abbrev pub by_rows : {B : Type 0} → List Row → B → (ℕ → B) → B
by_rows rows done refused = pick (eqb (first rows) 0) done (refused (first rows))

module _ {O B : Type 0} (says : O → B) (number : B → ℕ) (rows : List Row) (done : B) (refused : ℕ → B) {given : B}
    (rule : given ≡ by_rows rows done refused) (none : number done ≡ 0) (own : (n : ℕ) → number (refused n) ≡ n) where
  pub promised : {c : Contract O} → Gives c says given → Promised c given rows says number refused
  promised g = record {
    refuses = record {
      numbered = λ o m. ap number (g.gives o m ∙ rule) ∙ refusal_kept number (first rows) done (refused (first rows)) none (own (first rows));
      kept = λ o m h. g.gives o m ∙ rule ∙ ap (λ (t : Bool). pick t done (refused (first rows))) (ne_eqb (first rows) 0 h);
    };
    gives = g;
  }

-- a function of a choice is the choice of what it makes of each
pub through : {A B : Type 0} (f : A → B) (t : Bool) (a b : A) → f (pick t a b) ≡ pick t (f a) (f b)
through f true a b = refl
through f false a b = refl

-- the answer and the octets are all of an outcome
pub left_same : {A : Type 0} (o o' : Left A) → o.answer ≡ o'.answer → o.lent ≡ o'.lent → o ≡ o'
left_same {A} o o' p q =
    ap (λ (a : A). record { answer = a; lent = o.lent }) p ∙ ap (λ (l : List ℕ). record { answer = o'.answer; lent = l }) q

-- a call whose contract is that its outcome is what is given; it asks what is so of any call
pub exactly_where : {O asks : Type 0} {given : O} → asks → Is (as_read asks (λ r. r ≡ given)) given
exactly_where free = record { free = free; gives = λ r m. m; one = λ r r' p q. p ∙ sym q }

-- and where it asks nothing
pub exactly : {O : Type 0} {given : O} → Is (as_read (Unit {0}) (λ r. r ≡ given)) given
exactly = exactly_where tt

-- a call that answers its refusal alone, and writes new octets over the old where there is none
pub writes_where : {asks : Type 0} → asks → (rows : List Row) (new old : List ℕ)
    → Writes (as_read asks (λ o. (refusal_of o.answer ≡ first rows) × (o.lent ≡ pick (eqb (refusal_of o.answer) 0) new old))) rows new old
writes_where free rows new old = record {
  refuses = record {
    numbered = λ o m. m.0;
    kept = λ o m h.
        left_same (numbered o) (record { answer = first rows; lent = old }) m.0
        (m.1 ∙ ap (λ (n : ℕ). pick (eqb n 0) new old) m.0 ∙ ap (λ (t : Bool). pick t new old) (ne_eqb (first rows) 0 h));
  };
  gives = record {
    free = free;
    gives = λ o m. left_same (numbered o) _ m.0 (m.1 ∙ ap (λ (n : ℕ). pick (eqb n 0) new old) m.0);
    one = λ o o' m m'.
        let same : refusal_of o.answer ≡ refusal_of o'.answer = m.0 ∙ sym m'.0 in
        left_same o o' (same_refusal o.answer o'.answer same) (m.1 ∙ ap (λ (n : ℕ). pick (eqb n 0) new old) same ∙ sym m'.1);
  };
}

pub writes : (rows : List Row) (new old : List ℕ)
    → Writes (as_read (Unit {0}) (λ o. (refusal_of o.answer ≡ first rows) × (o.lent ≡ pick (eqb (refusal_of o.answer) 0) new old))) rows new old
writes = writes_where tt

-- What is asked of every public function, over the function's own contract.
-- The toolchain reads a contract at a call as two types: `Pre`, what its `requires` asks, and `Post`, what its `ensures` says. `Pre` is of
-- the call's lifetimes and its arguments; `Post` of these, the result, and the arguments as they are left: a slice that is lent to be
-- written stays where it was, with other elements (`at_last`), and all else stays as it was.
use Rattle.std.specs.Prelude.{ℕ, ◌≡◌, List, Result, eqb}
use Rattle.std.specs.Borrow.{Bor, MutBor}
use Rattle.octets.specs.Basics.{pick, Row, first}
use Rattle.octets.specs.Refusals.{refusal_of}
use Rattle.octets.specs.declared.refusals.Refusal.{Refusal}

-- a slice that is lent to be read: where it lies, and its elements, which `now` reads
abbrev pub Slice : Type 0
Slice = Bor (List ℕ)

-- a slice that is lent to be written: the name that it is known by besides
abbrev pub MutSlice : Type 0
MutSlice = MutBor (List ℕ)

-- a part that is handed back, where it lies, with these elements
abbrev pub lying : Slice → List ℕ → Slice
lying part os = record { ref_ptr = part.ref_ptr; now = os }

-- what comes of a call that is lent octets to write: its answer, and these octets after it
pub record Left (A : Type 0) : Type 0 where
  pub answer : A
  pub lent : List ℕ

-- what a function's own contract says of one call: what it asks of the caller, and which outcomes meet its promise
pub record Contract (O : Type 0) : Type 1 where
  pub asks : Type 0
  pub meets : O → Type 0

abbrev pub as_read : {O : Type 0} → Type 0 → (O → Type 0) → Contract O
as_read asks meets = record { asks = asks; meets = meets }

-- two outcomes that meet a promise are equal
abbrev pub One : {O : Type 0} → Contract O → Type 0
One {O} c = (o o' : O) → c.meets o → c.meets o' → o ≡ o'

-- A call that asks nothing, and whose outcomes say what the rules give and are determined by it.
pub record Gives {O B : Type 0} (c : Contract O) (says : O → B) (given : B) : Type 0 where
  pub free : c.asks
  pub gives : (o : O) → c.meets o → says o ≡ given
  pub one : One c

-- the same where the outcome itself is what the rules give
abbrev pub Is : {O : Type 0} → Contract O → O → Type 0
Is {O} c given = Gives c (λ (o : O). o) given

-- A call with its table of refusals; what an outcome says in document 01's numbers, and which of them is the refusal; and what is said
-- where the call is refused by n: the record and the octets that it was given, no counts, no part.
pub record Refuses {O B : Type 0} (c : Contract O) (rows : List Row) (says : O → B) (number : B → ℕ) (refused : ℕ → B) : Type 0 where
  -- the refusal is the first row that holds, 0 where none does
  pub numbered : (o : O) → c.meets o → number (says o) ≡ first rows
  pub kept : (o : O) → c.meets o → (first rows ≡ 0 → ⊥) → says o ≡ refused (first rows)

-- both
pub record Promised {O B : Type 0} (c : Contract O) (given : B) (rows : List Row) (says : O → B) (number : B → ℕ) (refused : ℕ → B) : Type 0 where
  pub refuses : Refuses c rows says number refused
  pub gives : Gives c says given

-- an outcome with its refusal as a number, 0 where there is none
abbrev pub numbered : {A : Type 0} → Left (Result A Refusal) → Left ℕ
numbered o = record { answer = refusal_of o.answer; lent = o.lent }

-- a call that answers its refusal alone, and writes new octets over the old where there is none
abbrev pub Writes : Contract (Left (Result (Unit {0}) Refusal)) → List Row → List ℕ → List ℕ → Type 0
Writes c rows new old =
    Promised c (record { answer = first rows; lent = pick (eqb (first rows) 0) new old }) rows numbered (λ o. o.answer) (λ n. record { answer = n; lent = old })

-- What every call answers, and that its promise determines the reply and the frame that it leaves.
-- Assumes nothing.
use mathlib.Core.Path.{◌≡◌, refl, sym, ap, ap₂, ◌∙◌}
use mathlib.Core.List.{List}
use Prim.Native.Nat.{ℕ}
use Rattle.std.specs.Prelude.{Result, Ok, Err}
use lib.ListN.{length}
use borrow.Author.Tests.{eq-eqb, ne_eqb}
use Rattle.octets.specs.Basics.{first}
use Rattle.octets.specs.declared.refusals.Refusal.{Refusal}
use Rattle.octets.proofs.ByNumber.{same_number, refused_not_0}
use Rattle.packets.specs.declared.damage.Refused.{Refused}
use Rattle.packets.proofs.Determined.{same_refused}
use Rattle.frames.specs.declared.Settings.{Settings}
use Rattle.multiplexer.specs.Calls.{Call, call_rows, call, call_damage, Answer, refusing, doing, answers, answers_alone, answer, Outcome, Meets}
use Rattle.multiplexer.specs.declared.Mux.{Mux}
use Rattle.multiplexer.specs.declared.Done.{Done}

module _ (s : Settings) (m : Mux) (c : Call) (frame : List ℕ) {n : ℕ} (e : n ≡ first (call_rows s m c (length frame))) where
  -- a row that holds refuses the call
  pub refused : (n ≡ 0 → ⊥) → {d : ℕ} → d ≡ call_damage s c n → answer s m c frame ≡ refusing n d m frame
  unfolding answer
  refused h q = rw (q, ← e, ne_eqb n 0 h) refl

  -- where none holds the call is carried out
  pub done : n ≡ 0 → answer s m c frame ≡ doing (call s m c frame)
  unfolding answer
  done h = rw (← e, eq-eqb n 0 h) refl

-- what an answer says that was done
abbrev done_by : Answer → Done
done_by a = record { full = a.full; taken = a.taken; mux = a.mux }

module _ (m : Mux) (f g : List ℕ) where
  same_put : (r q : Result Done Refused) → answers m r f ≡ answers m q g → r ≡ q
  unfolding answers
  same_put (Ok d) (Ok e) x = ap (λ (a : Answer). Ok (done_by a)) x
  same_put (Ok d) (Err q) x = absurd (refused_not_0 q.refusal (sym (ap (λ (a : Answer). a.refusal) x)))
  same_put (Err r) (Ok e) x = absurd (refused_not_0 r.refusal (ap (λ (a : Answer). a.refusal) x))
  same_put (Err r) (Err q) x =
      ap Err (same_refused r q (ap (λ (a : Answer). a.refusal) x) (ap (λ (a : Answer). a.damage) x))

  same_alone : (r q : Result Done Refusal) → answers_alone m r f ≡ answers_alone m q g → r ≡ q
  unfolding answers_alone
  same_alone (Ok d) (Ok e) x = ap (λ (a : Answer). Ok (done_by a)) x
  same_alone (Ok d) (Err q) x = absurd (refused_not_0 q (sym (ap (λ (a : Answer). a.refusal) x)))
  same_alone (Err r) (Ok e) x = absurd (refused_not_0 r (ap (λ (a : Answer). a.refusal) x))
  same_alone (Err r) (Err q) x = ap Err (same_number r q (ap (λ (a : Answer). a.refusal) x))

module _ (m : Mux) (f : List ℕ) where
  put_leaves : (r : Result Done Refused) → (answers m r f).frame ≡ f
  unfolding answers
  put_leaves (Ok d) = refl
  put_leaves (Err r) = refl

  alone_leaves : (r : Result Done Refusal) → (answers_alone m r f).frame ≡ f
  unfolding answers_alone
  alone_leaves (Ok d) = refl
  alone_leaves (Err r) = refl

same_outcome : {A : Type 0} (o o' : Outcome A) → o.said ≡ o'.said → o.frame ≡ o'.frame → o ≡ o'
same_outcome o o' e f = ap₂ (λ r l. record { said = r; frame = l }) e f

-- two outcomes that meet the promise of a put are equal
pub put_determined : (m : Mux) (a : Answer) (o o' : Outcome (Result Done Refused)) → Meets answers m o a → Meets answers m o' a → o ≡ o'
put_determined m a o o' p q =
    let same = p ∙ sym q in
    same_outcome o o' (same_put m o.frame o'.frame o.said o'.said same)
    (sym (put_leaves m o.frame o.said) ∙ ap (λ (a : Answer). a.frame) same ∙ put_leaves m o'.frame o'.said)

-- the same of a flush and of an idle zone
pub alone_determined : (m : Mux) (a : Answer) (o o' : Outcome (Result Done Refusal)) → Meets answers_alone m o a → Meets answers_alone m o' a → o ≡ o'
alone_determined m a o o' p q =
    let same = p ∙ sym q in
    same_outcome o o' (same_alone m o.frame o'.frame o.said o'.said same)
    (sym (alone_leaves m o.frame o.said) ∙ ap (λ (a : Answer). a.frame) same ∙ alone_leaves m o'.frame o'.said)

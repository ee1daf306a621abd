-- The promises of `multiplexer`: any of its calls by one law.
-- Assumes nothing.
use Prim.Native.Nat.{ℕ}
use mathlib.Core.Path.{◌≡◌, refl, ap}
use mathlib.Core.List.{List}
use lib.ListN.{length}
use Rattle.frames.specs.declared.Settings.{Settings}
use Rattle.multiplexer.specs.Calls.{Call, to_put, to_flush, to_idle, call_rows, call, call_damage, Answer, refusing, doing, answers, answers_alone, answer, Outcome, Meets}
use Rattle.multiplexer.specs.declared.Mux.{Mux}
use Rattle.multiplexer.proofs.Answers.{put_determined, alone_determined}
use Rattle.multiplexer.proofs.Putting.{call_reachable}
use Rattle.multiplexer.proofs.Reached.{mux_reached_exactly}
use Rattle.demands.specs.Promises.{Left, as_read}
use Rattle.demands.specs.calls.Multiplexer.{Answers, OfMultiplexer}
use Rattle.demands.proofs.Promised.{promised, left_same, exactly}

-- two outcomes that a call's promise says the same of are equal
abbrev Determined : {A : Type 0} → (Mux → A → List ℕ → Answer) → Type 0
Determined {A} says = (m : Mux) (a : Answer) (o o' : Outcome A) → Meets says m o a → Meets says m o' a → o ≡ o'

answering : {A : Type 0} (says : Mux → A → List ℕ → Answer) → Determined says → (s : Settings) (m : Mux) (c : Call) (frame : List ℕ)
    → Answers says (as_read (Unit {0}) (λ o. says m o.answer o.lent ≡ answer s m c frame)) s m c frame
unfolding answer
answering {A} says determined s m c frame =
    promised (λ (o : Left A). says m o.answer o.lent) (λ a. a.refusal) (call_rows s m c (length frame)) (doing (call s m c frame))
    (λ n. refusing n (call_damage s c n) m frame) refl refl (λ n. refl)
    (record {
      free = tt;
      gives = λ o m. m;
      one = λ o o' p q.
          let same = determined m (answer s m c frame) (record { said = o.answer; frame = o.lent }) (record { said = o'.answer; frame = o'.lent }) p q in
          left_same o o' (ap (λ (x : Outcome A). x.said) same) (ap (λ (x : Outcome A). x.frame) same);
    })

pub of_multiplexer : OfMultiplexer
of_multiplexer = record {
  begin = exactly;
  put = λ κs s m p frame. answering answers put_determined s m (to_put p.now) frame.now;
  flush = λ κs s m frame. answering answers_alone alone_determined s m to_flush frame.now;
  idle_zone = λ κs s m frame. answering answers_alone alone_determined s m to_idle frame.now;
  keeps = λ s m c frame e. call_reachable s m c frame e;
  exact = mux_reached_exactly;
}

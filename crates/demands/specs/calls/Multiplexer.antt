-- What the public functions of `multiplexer` promise.
use Rattle.std.specs.Prelude.{ℕ, List, length}
use contract.Lifetimes.{Lfts}
use denote.Ref.{at_last}
use Rattle.frames.specs.declared.Settings.{Settings}
use Rattle.multiplexer.specs.Multiplex.{begun}
use Rattle.multiplexer.specs.Calls.{Call, to_put, to_flush, to_idle, call_rows, call_damage, Answer, refusing, answers, answers_alone, answer}
use Rattle.multiplexer.specs.Reach.{KeepsToTheTest, ReachesAll}
use Rattle.multiplexer.specs.declared.Mux.{Mux}
use Rattle.multiplexer.proofs.begin.Reads as begin_fn
use Rattle.multiplexer.proofs.put.Reads as put_fn
use Rattle.multiplexer.proofs.flush.Reads as flush_fn
use Rattle.multiplexer.proofs.idle_zone.Reads as idle_zone_fn
use Rattle.demands.specs.Promises.{Slice, MutSlice, Left, Contract, as_read, Is, Promised}

-- a call with its rows, its answer and the frame that it leaves
abbrev pub Answers : {A : Type 0} → (Mux → A → List ℕ → Answer) → Contract (Left A) → Settings → Mux → Call → List ℕ → Type 0
Answers says c s m call frame =
    Promised c (answer s m call frame) (call_rows s m call (length frame)) (λ o. says m o.answer o.lent) (λ a. a.refusal) (λ n. refusing n (call_damage s call n) m frame)

-- the first record, put, flush and idle zone; the records that they hand back pass the check for refusal 10, and it is exact
pub record OfMultiplexer : Type 0 where
  pub begin : Is (as_read (begin_fn.Pre tt tt) (λ r. begin_fn.Post tt tt r tt)) begun
  pub put : (κs : Lfts 2) (s : Settings) (m : Mux) (p : Slice) (frame : MutSlice)
      → Answers answers (as_read (put_fn.Pre κs (s, (m, (p, (frame, tt)))))
      (λ o. put_fn.Post κs (s, (m, (p, (frame, tt)))) o.answer (s, (m, (p, (at_last frame o.lent, tt))))))
      s m (to_put p.now) frame.now
  pub flush : (κs : Lfts 1) (s : Settings) (m : Mux) (frame : MutSlice)
      → Answers answers_alone (as_read (flush_fn.Pre κs (s, (m, (frame, tt))))
      (λ o. flush_fn.Post κs (s, (m, (frame, tt))) o.answer (s, (m, (at_last frame o.lent, tt)))))
      s m to_flush frame.now
  pub idle_zone : (κs : Lfts 1) (s : Settings) (m : Mux) (frame : MutSlice)
      → Answers answers_alone (as_read (idle_zone_fn.Pre κs (s, (m, (frame, tt))))
      (λ o. idle_zone_fn.Post κs (s, (m, (frame, tt))) o.answer (s, (m, (at_last frame o.lent, tt)))))
      s m to_idle frame.now
  pub keeps : KeepsToTheTest
  pub exact : ReachesAll

-- What the public functions of `extractor` promise.
use Rattle.std.specs.Prelude.{[], Some, Result}
use contract.Lifetimes.{Lfts}
use denote.Ref.{at_last}
use Rattle.octets.specs.Basics.{first}
use Rattle.octets.specs.Refusals.{refusal_of}
use Rattle.octets.specs.declared.refusals.Refusal.{Refusal}
use Rattle.frames.specs.declared.Settings.{Settings}
use Rattle.extractor.specs.Records.{checked, enter_rows, step_rows, shown}
use Rattle.extractor.specs.Answers.{reason_number, refused_enter, enter_says, enter_answer, refused_step, found_or_refused, step_says, step_answer}
use Rattle.extractor.specs.Calls.{spends_to, spend_says, spend_answer}
use Rattle.extractor.specs.Statements.{KeepsToTheTest, ReachesAll, Exceptions}
use Rattle.extractor.specs.declared.Extractor.{Extractor}
use Rattle.extractor.specs.declared.Reason.{Reason}
use Rattle.extractor.specs.declared.Entering.{Entering}
use Rattle.extractor.specs.declared.Found.{Found}
use Rattle.extractor.specs.declared.Move.{Move}
use Rattle.extractor.proofs.Reason.number.Reads as reason_number_fn
use Rattle.extractor.proofs.record_refusal.Reads as record_refusal_fn
use Rattle.extractor.proofs.enter.Reads as enter_fn
use Rattle.extractor.proofs.step.Reads as step_fn
use Rattle.extractor.proofs.spend.Reads as spend_fn
use Rattle.extractor.proofs.show.Reads as show_fn
use Rattle.demands.specs.Promises.{Slice, MutSlice, lying, Left, as_read, Gives, Is, Promised}

-- The numbers of reasons, enter, step, spend, show, and what a record is refused for. The records that are handed back pass the check for refusal 10; it is exact, but for
-- the one kind of record that `Exceptions` names.
pub record OfExtractor : Type 0 where
  pub reason_number : (r : Reason)
      → Is (as_read (reason_number_fn.Pre tt (r, tt)) (λ n. reason_number_fn.Post tt (r, tt) n (r, tt))) (reason_number (Some r))
  pub record_refusal : (κs : Lfts 1) (s : Settings) (x : Extractor) (store : Slice)
      → Gives (as_read (record_refusal_fn.Pre κs (s, (x, (store, tt))))
      (λ (r : Result (Unit {0}) Refusal). record_refusal_fn.Post κs (s, (x, (store, tt))) r (s, (x, (store, tt)))))
      refusal_of (first (checked s x store.now []))
  pub enter : (κs : Lfts 2) (s : Settings) (x : Extractor) (store f : Slice)
      → Promised (as_read (enter_fn.Pre κs (s, (x, (store, (f, tt)))))
      (λ (r : Result Entering Refusal). enter_fn.Post κs (s, (x, (store, (f, tt)))) r (s, (x, (store, (f, tt))))))
      (enter_answer s x store.now f.now) (enter_rows s x store.now f.now)
      (enter_says x) (λ a. a.answer.refusal) (refused_enter x)
  pub step : (κs : Lfts 2) (s : Settings) (x : Extractor) (store : MutSlice) (f : Slice)
      → Promised (as_read (step_fn.Pre κs (s, (x, (store, (f, tt)))))
      (λ (o : Left (Result Move Refusal)). step_fn.Post κs (s, (x, (store, (f, tt)))) o.answer (s, (x, (at_last store o.lent, (f, tt))))))
      (step_answer s x store.now f.now) (step_rows s x store.now f.now)
      (λ o. step_says x o.answer f.now o.lent) (λ a. a.answer.refusal) (λ n. record { answer = refused_step n; next = x; store = store.now })
  pub spend : (κs : Lfts 2) (s : Settings) (x : Extractor) (store : MutSlice) (f : Slice)
      → Promised (as_read (spend_fn.Pre κs (s, (x, (store, (f, tt)))))
      (λ (o : Left (Result Extractor Refusal)). spend_fn.Post κs (s, (x, (store, (f, tt)))) o.answer (s, (x, (at_last store o.lent, (f, tt))))))
      (spend_answer s x store.now f.now) (step_rows s x store.now f.now)
      (λ o. spend_says x o.answer o.lent) (λ a. a.refusal) (λ n. spends_to n x store.now)
  -- a part that is handed back lies somewhere: an outcome is its octets
  pub show : (κs : Lfts 1) (f store : Slice) (found : Result Found Refusal) (part : Slice)
      → Is (as_read (show_fn.Pre κs (f, (store, (found, tt)))) (λ r. show_fn.Post κs (f, (store, (found, tt))) (lying part r) (f, (store, (found, tt)))))
      (shown f.now store.now (found_or_refused found))
  pub keeps : KeepsToTheTest
  pub exact : ReachesAll
  pub exceptions : Exceptions

-- What the public functions of `runfile` promise.
use Rattle.std.specs.Prelude.{ℕ}
use contract.Lifetimes.{Lfts}
use Rattle.runfile.specs.Steps.{body_length, taken, closed}
use Rattle.runfile.specs.Statements.{ReachesAll, UnreachedAreBad}
use Rattle.runfile.specs.declared.Progress.{Progress}
use Rattle.runfile.proofs.body_length.Reads as body_length_fn
use Rattle.runfile.proofs.take.Reads as take_fn
use Rattle.runfile.proofs.close.Reads as close_fn
use Rattle.demands.specs.Promises.{Slice, as_read, Is}

-- the reader of run files, record by record; which progress a file can lead to is exact, and from any other all is bad
pub record OfRunFile : Type 0 where
  pub body_length : (r : Progress) (kind : ℕ)
      → Is (as_read (body_length_fn.Pre tt (r, (kind, tt))) (λ n. body_length_fn.Post tt (r, (kind, tt)) n (r, (kind, tt)))) (body_length r kind)
  pub take : (κs : Lfts 1) (r : Progress) (kind : ℕ) (body : Slice)
      → Is (as_read (take_fn.Pre κs (r, (kind, (body, tt)))) (λ a. take_fn.Post κs (r, (kind, (body, tt))) a (r, (kind, (body, tt)))))
      (taken r kind body.now)
  pub close : (r : Progress) → Is (as_read (close_fn.Pre tt (r, tt)) (λ a. close_fn.Post tt (r, tt) a (r, tt))) (closed r)
  pub exact : ReachesAll
  pub unreached : UnreachedAreBad

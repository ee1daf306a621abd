-- What the public functions of `arrays` promise.
use Rattle.std.specs.Prelude.{ℕ, Bool, List, length, get_or}
use contract.Lifetimes.{Lfts}
use denote.Ref.{at_last}
use Rattle.octets.specs.Basics.{pick, fits}
use Rattle.arrays.specs.Arrays.{told, kept, handed_on, bit, octet_of, count_of}
use Rattle.arrays.proofs.flag.Reads as flag_fn
use Rattle.arrays.proofs.octet_of.Reads as octet_of_fn
use Rattle.arrays.proofs.count_of.Reads as count_of_fn
use Rattle.arrays.proofs.entry.Reads as entry_fn
use Rattle.arrays.proofs.put.Reads as put_fn
use Rattle.arrays.proofs.keep.Reads as keep_fn
use Rattle.demands.specs.Promises.{Slice, MutSlice, Left, Contract, as_read, Is}

-- a call that writes over a part of its array, or answers 2 and writes nothing where there is no room
abbrev pub Lays : Contract (Left ℕ) → Bool → List ℕ → Type 0
Lays c room written = Is c (record { answer = pick room 0 2; lent = written })

-- numbers that have to fit fewer bits, a number of an array, and numbers written over an array's front
pub record OfArrays : Type 0 where
  pub flag : (yes : Bool) → Is (as_read (flag_fn.Pre tt (yes, tt)) (λ r. flag_fn.Post tt (yes, tt) r (yes, tt))) (bit yes)
  pub octet_of : (n : ℕ) → Is (as_read (octet_of_fn.Pre tt (n, tt)) (λ r. octet_of_fn.Post tt (n, tt) r (n, tt))) (octet_of n)
  pub count_of : (n : ℕ) → Is (as_read (count_of_fn.Pre tt (n, tt)) (λ r. count_of_fn.Post tt (n, tt) r (n, tt))) (count_of n)
  pub entry : (κs : Lfts 1) (numbers : Slice) (at : ℕ)
      → Is (as_read (entry_fn.Pre κs (numbers, (at, tt))) (λ r. entry_fn.Post κs (numbers, (at, tt)) r (numbers, (at, tt)))) (get_or numbers.now at 0)
  pub put : (κs : Lfts 2) (array : MutSlice) (numbers : Slice)
      → Lays (as_read (put_fn.Pre κs (array, (numbers, tt)))
      (λ o. put_fn.Post κs (array, (numbers, tt)) o.answer (at_last array o.lent, (numbers, tt))))
      (fits array.now 0 (length numbers.now)) (told array.now numbers.now)
  pub keep : (κs : Lfts 2) (array : MutSlice) (refusal : ℕ) (numbers : Slice)
      → Is (as_read (keep_fn.Pre κs (array, (refusal, (numbers, tt))))
      (λ (o : Left ℕ). keep_fn.Post κs (array, (refusal, (numbers, tt))) o.answer (at_last array o.lent, (refusal, (numbers, tt)))))
      (record { answer = handed_on refusal array.now numbers.now; lent = kept refusal array.now numbers.now })

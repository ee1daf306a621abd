-- What the public functions of `octets` promise.
use Rattle.std.specs.Prelude.{ℕ, ◌+◌, ◌-◌, ◌*◌, ◌%◌, ◌^◌, ◌≤◌, ◌<◌, min, Bool, List, get_or, replicate, leb, Result, Ok, Err}
use contract.Lifetimes.{Lfts}
use denote.Ref.{at_last}
use mir.Syntax.{w64}
use mir.Val.{Fits}
use Rattle.octets.specs.Basics.{pick, number_at, part_of, octets, fits, laid, part_fits, laid_part}
use Rattle.octets.specs.declared.refusals.Refusal.{Refusal}
use Rattle.octets.specs.Refusals.{number_of}
use Rattle.octets.proofs.refusals.Refusal.number.Reads as number_of_fn
use Rattle.octets.proofs.within.Reads as within_fn
use Rattle.octets.proofs.octet.Reads as octet_fn
use Rattle.octets.proofs.number.Reads as number_fn
use Rattle.octets.proofs.part.Reads as part_fn
use Rattle.octets.proofs.put.Reads as put_fn
use Rattle.octets.proofs.lay.Reads as lay_fn
use Rattle.octets.proofs.fill.Reads as fill_fn
use Rattle.octets.proofs.least.Reads as least_fn
use Rattle.octets.proofs.rest.Reads as rest_fn
use Rattle.demands.specs.Promises.{Slice, MutSlice, lying, Left, Contract, as_read, Is}

-- a call that writes over a part of its buffer, or is refused by 2 and writes nothing where there is no room
abbrev pub Lays : Contract (Left (Result (Unit {0}) Refusal)) → Bool → List ℕ → Type 0
Lays c room written = Is c (record { answer = pick room (Ok tt) (Err Refusal.Room); lent = written })

-- The number in so many octets, which `usize` has to hold, as any has that a call can name.
abbrev pub number_in : (k : ℕ) → Fits w64 k → Lfts 2 → Slice → ℕ → Contract ℕ
number_in k held κs s at = as_read (number_fn.Pre k held κs (s, (at, tt))) (λ r. number_fn.Post k held κs (s, (at, tt)) r (s, (at, tt)))

-- the numbers of refusals, numbers in octets, octets written over others, and the small choices that other crates make
pub record OfOctets : Type 0 where
  pub number_of : (r : Refusal) → Is (as_read (number_of_fn.Pre tt (r, tt)) (λ n. number_of_fn.Post tt (r, tt) n (r, tt))) (number_of r)
  pub within : (len at n : ℕ)
      → Is (as_read (within_fn.Pre tt (len, (at, (n, tt)))) (λ r. within_fn.Post tt (len, (at, (n, tt))) r (len, (at, (n, tt))))) (leb (at + n) len)
  pub octet : (κs : Lfts 1) (s : Slice) (at : ℕ)
      → Is (as_read (octet_fn.Pre κs (s, (at, tt))) (λ r. octet_fn.Post κs (s, (at, tt)) r (s, (at, tt)))) (get_or s.now at 0)
  -- its low 64 bits, which are all of it to eight octets
  pub number : (k : ℕ) (held : Fits w64 k) (κs : Lfts 2) (s : Slice) (at : ℕ) → Is (number_in k held κs s at) (number_at k at s.now % 2 ^ 64)
  pub number_short : (k : ℕ) (held : Fits w64 k) (κs : Lfts 2) (s : Slice) (at n : ℕ) → (number_in k held κs s at).meets n → n < 2 ^ (8 * k)
  pub number_to_eight : (k : ℕ) (held : Fits w64 k) (κs : Lfts 2) (s : Slice) (at : ℕ) → k ≤ 8 → Is (number_in k held κs s at) (number_at k at s.now)
  pub number2 : (held : Fits w64 2) (κs : Lfts 2) (s : Slice) (at : ℕ) → Is (number_in 2 held κs s at) (number_at 2 at s.now)
  pub number3 : (held : Fits w64 3) (κs : Lfts 2) (s : Slice) (at : ℕ) → Is (number_in 3 held κs s at) (number_at 3 at s.now)
  pub number4 : (held : Fits w64 4) (κs : Lfts 2) (s : Slice) (at : ℕ) → Is (number_in 4 held κs s at) (number_at 4 at s.now)
  pub number6 : (held : Fits w64 6) (κs : Lfts 2) (s : Slice) (at : ℕ) → Is (number_in 6 held κs s at) (number_at 6 at s.now)
  -- a part that is handed back lies somewhere: an outcome is its octets
  pub part : (κs : Lfts 1) (s : Slice) (start size : ℕ) (part : Slice)
      → Is (as_read (part_fn.Pre κs (s, (start, (size, tt)))) (λ r. part_fn.Post κs (s, (start, (size, tt))) (lying part r) (s, (start, (size, tt)))))
      (part_of s.now start size)
  pub put : (κs : Lfts 1) (buf : MutSlice) (at k n : ℕ)
      → Lays (as_read (put_fn.Pre κs (buf, (at, (k, (n, tt)))))
      (λ o. put_fn.Post κs (buf, (at, (k, (n, tt)))) o.answer (at_last buf o.lent, (at, (k, (n, tt))))))
      (fits buf.now at k) (laid buf.now at (octets k n))
  pub lay : (κs : Lfts 2) (buf : MutSlice) (at : ℕ) (src : Slice) (from to : ℕ)
      → Lays (as_read (lay_fn.Pre κs (buf, (at, (src, (from, (to, tt))))))
      (λ o. lay_fn.Post κs (buf, (at, (src, (from, (to, tt))))) o.answer (at_last buf o.lent, (at, (src, (from, (to, tt)))))))
      (part_fits buf.now at from to src.now) (laid_part buf.now at from to src.now)
  pub fill : (κs : Lfts 1) (buf : MutSlice) (at n octet : ℕ)
      → Lays (as_read (fill_fn.Pre κs (buf, (at, (n, (octet, tt)))))
      (λ o. fill_fn.Post κs (buf, (at, (n, (octet, tt)))) o.answer (at_last buf o.lent, (at, (n, (octet, tt))))))
      (fits buf.now at n) (laid buf.now at (replicate n octet))
  pub least : (a b : ℕ) → Is (as_read (least_fn.Pre tt (a, (b, tt))) (λ r. least_fn.Post tt (a, (b, tt)) r (a, (b, tt)))) (min a b)
  pub rest : (whole taken : ℕ)
      → Is (as_read (rest_fn.Pre tt (whole, (taken, tt))) (λ r. rest_fn.Post tt (whole, (taken, tt)) r (whole, (taken, tt)))) (whole - taken)

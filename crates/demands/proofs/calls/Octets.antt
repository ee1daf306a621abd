-- The promises of `octets`.
-- Assumes nothing.
use Prim.Native.Nat.{ℕ, ◌≤◌}
use mathlib.Core.Path.{◌≡◌, refl, sym, ◌∙◌}
use mathlib.Core.List.{List}
use mathlib.Core.Bool.{Bool, true, false}
use native.Mathlib.Omega.{arith}
use contract.BorrowLft.{⊑_static}
use contract.Lifetimes.{Lfts}
use mir.Syntax.{w64}
use mir.Val.{Fits}
use Rattle.std.specs.Prelude.{Result, Ok, Err}
use Rattle.octets.specs.Basics.{pick}
use Rattle.octets.specs.Basics as octets
use Rattle.octets.specs.Refusals.{refusal_of}
use Rattle.octets.specs.declared.refusals.Refusal.{Refusal}
use Rattle.octets.proofs.ByNumber.{same_refusal}
use Rattle.demands.specs.Promises.{Slice, as_read, Is}
use Rattle.demands.specs.calls.Octets.{Lays, number_in, OfOctets}
use Rattle.demands.proofs.Promised.{left_same, exactly}

-- the answer of a call that writes, and the number of its refusal
written_by : Bool → Result (Unit {0}) Refusal
written_by room = pick room (Ok tt) (Err Refusal.Room)

by_number : (room : Bool) → refusal_of (written_by room) ≡ pick room 0 2
unfolding written_by
by_number true = refl
by_number false = refl

-- a call that writes
lays : (room : Bool) (written : List ℕ) → Lays (as_read (Unit {0}) (λ o. octets.Lays room written (refusal_of o.answer) o.lent)) room written
unfolding written_by
lays room written = record {
  free = tt;
  gives = λ o m. left_same o (record { answer = written_by room; lent = written }) (same_refusal o.answer (written_by room) (m.answer ∙ sym (by_number room))) m.left;
  one = λ o o' p q. left_same o o' (same_refusal o.answer o'.answer (p.answer ∙ sym q.answer)) (p.left ∙ sym q.left);
}

-- a number of eight octets at most
whole_number : (k : ℕ) (held : Fits w64 k) (κs : Lfts 2) (s : Slice) (at : ℕ) → k ≤ 8 → Is (number_in k held κs s at) (octets.number_at k at s.now)
whole_number k held κs s at h = record { free = ⊑_static _; gives = λ r m. m.0 h; one = λ r r' p q. p.0 h ∙ sym (q.0 h) }

pub of_octets : OfOctets
of_octets = record {
  number_of = λ r. exactly;
  within = λ len at n. exactly;
  octet = λ κs s at. exactly;
  number = λ k held κs s at. record { free = ⊑_static _; gives = λ r m. m.1.0; one = λ r r' p q. p.1.0 ∙ sym q.1.0 };
  number_short = λ k held κs s at n m. m.1.1;
  number_to_eight = whole_number;
  number2 = λ held κs s at. whole_number 2 held κs s at (omega arith);
  number3 = λ held κs s at. whole_number 3 held κs s at (omega arith);
  number4 = λ held κs s at. whole_number 4 held κs s at (omega arith);
  number6 = λ held κs s at. whole_number 6 held κs s at (omega arith);
  part = λ κs s start size part. exactly;
  put = λ κs buf at k n. lays _ _;
  lay = λ κs buf at src from to. lays _ _;
  fill = λ κs buf at n octet. lays _ _;
  least = λ a b. exactly;
  rest = λ whole taken. exactly;
}

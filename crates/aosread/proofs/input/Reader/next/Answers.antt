-- `input::Reader::next` meets its contract: the record's octets stand first.
use Rattle.std.proofs.Common.{◌≡◌, ◌+◌, ◌-◌, ◌<◌, ◌≤◌, List, ℕ, ap, sym, subst, length, get_or, arith}
use Rattle.std.specs.Prelude.{slice_range}
use Rattle.aosread.specs.Input.{StandFirst}
use Rattle.aosread.specs.Held.{Held}
use Rattle.aosread.proofs.Records.{length-range, range_first, first_most, record_there, short_body}
use Rattle.aosread.proofs.input.Reader.next.Goals as goal

pub overflow_add-size : goal.overflow_add-size
overflow_add-size g c = record { fits = omega (arith, short_body _ _ _ c.body_length-size.ensures) }

pub overflow_add-self-inside : goal.overflow_add-self-inside
overflow_add-self-inside g c = record { fits = omega (arith, short_body _ _ _ c.body_length-size.ensures, c.self-2.invariant) }

pub returns : goal.returns
returns g c =
    let r = c.self.inside in
    let s = c.self-2.inside in
    let before : List ℕ = c.args.self.now.unread in
    let mid : List ℕ = slice_range r.octets r.from r.to in
    let all : List ℕ = slice_range s.octets s.from s.to in
    let kind : ℕ = get_or r.octets r.from 0 in
    let end : ℕ = c.min-self-inside.result in
    let mid_is : mid ≡ c.wait_for.new.self.unread = ap (λ (h : Held). h.unread) c.self.view_is in
    let all_is : all ≡ c.wait_for-2.new.self.unread = ap (λ (h : Held). h.unread) c.self-2.view_is in
    let e : StandFirst before mid = subst (StandFirst before) (sym mid_is) c.wait_for.ensures in
    let f : StandFirst mid all = rw (← mid_is, ← all_is) at c.wait_for-2.ensures in
    let some : r.from < r.to = omega (arith, c.self.invariant) in
    let here : length mid ≡ r.to - r.from = length-range r.octets r.from r.to (omega arith) (omega (arith, c.self.invariant, c.self.told)) in
    let more : length mid ≤ length all = first_most mid all f in
    let left : s.from + 1 ≤ s.to =
    omega (arith, here, more, length-range s.octets s.from s.to (omega (arith, c.self-2.invariant)) (omega (arith, c.self-2.invariant, c.self-2.told))) in
    let first : s.from + 1 ≤ end = omega (arith, c.min-self-inside.ensures) in
    let last : end ≤ s.to = omega (arith, c.min-self-inside.ensures) in
    let room : s.to ≤ length s.octets = omega (arith, c.self-2.invariant, c.self-2.told) in
    record {
      kind = kind;
      size = rw (length-range s.octets (s.from + 1) end first (omega arith), length-range s.octets end s.to last room)
          (omega (arith, c.min-self-inside.ensures, c.body_length-size.ensures));
      reads = c.take.ensures;
      all_there = record_there before mid s.octets s.from end s.to kind e f (omega arith) (sym (range_first r.octets r.from r.to some)) first last room;
    }

-- `text::Text::decimal` meets its contract: the digits that are written stand behind those of the rest.
use Rattle.std.proofs.Common.{◌≡◌, ◌+◌, ◌-◌, ◌<◌, ◌%◌, ◌++◌, [], ◌∙◌, List, ℕ, length, refl, sym, ap, subst, arith, length-set, length-take-le}
use Rattle.std.proofs.lemmas.List.{take-set-le}
use Rattle.std.specs.Prelude.{slice_range}
use Rattle.aosread.proofs.Texts.{Writing, none_written, writing_on, written, range_set, range_none, ends}
use Rattle.aosread.proofs.text.Text.decimal.Goals as goal

pub loop-at-init : goal.loop-at-init
loop-at-init g c =
    let t = c.self.inside in
    let k = c.ilog10.result in
    let end : ℕ = t.length + k + 1 in
    let places : end - t.length ≡ k + 1 = omega arith in
    let none : slice_range t.octets end end ≡ [] = range_none t.octets end in
    record {
      same = refl;
      length = refl;
      inside = omega arith;
      front = c.self.view_is;
      writing = rw (places, none) (none_written c.args.n k c.ranges.n.fits (omega (arith, c.ilog10.ensures.power_le, c.max.ensures)) (omega (arith, c.ilog10.ensures.next_power_gt, c.max.ensures)));
    }

pub loop-at-preserved : goal.loop-at-preserved
loop-at-preserved g c =
    let l = c.loop-at in
    let i = l.invariant in
    let t = l.self-inside in
    let from = c.self.inside.length in
    let end : ℕ = from + c.ilog10.result + 1 in
    let at : ℕ = l.at - 1 in
    let octet : ℕ = 48 + l.rest % 10 in
    let some : from < l.at = c.loop-at-test.true in
    let before : length c.args.self.now ≡ from =
    ap length (sym c.self.view_is) ∙ length-take-le from c.self.inside.octets (omega (arith, c.self.invariant, c.self.told)) in
    let room : at < length t.octets = omega (arith, c.requires, c.self.told, i.same, l.auto.at, c.ilog10.ensures.bound) in
    let here : at + 1 ≡ l.at = omega arith in
    let left : at - from ≡ l.at - from - 1 = omega arith in
    record {
      same = length-set t.octets at octet ∙ i.same;
      length = i.length;
      inside = omega arith;
      front = take-set-le from t.octets at octet (omega arith) ∙ i.front;
      writing = rw (left, range_set t.octets at end octet room (omega (arith, l.auto.at)), here) (writing_on (omega arith) i.writing);
    }

pub returns : goal.returns
returns g c =
    let l = c.loop-at in
    let i = l.invariant in
    let t = l.self-inside in
    let from = c.self.inside.length in
    let end : ℕ = from + c.ilog10.result + 1 in
    let none : l.at - from ≡ 0 = omega (arith, c.loop-at-test.false) in
    let first : l.at ≡ from = omega (arith, c.loop-at-test.false, i.inside) in
    ends t.octets from end (omega arith) ∙ ap (λ (p : List ℕ). p ++ slice_range t.octets from end) i.front
    ∙ ap (λ (p : List ℕ). c.args.self.now ++ p)
    (ap (λ (n : ℕ). slice_range t.octets n end) (sym first) ∙ written (subst (λ (n : ℕ). Writing c.args.n n l.rest (slice_range t.octets l.at end)) none i.writing))

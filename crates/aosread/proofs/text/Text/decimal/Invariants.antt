-- `text::Text::decimal`: the digits that are written stand behind those of the rest.
use Rattle.std.proofs.Common.{◌≡◌, ◌-◌, ◌≤◌, length, take}
use Rattle.std.specs.Prelude.{slice_range}
use Rattle.aosread.proofs.Texts.{Writing}
use Rattle.aosread.proofs.text.Text.decimal.Given as goal

abbrev pub invariant-loop-at : goal.invariant-loop-at
invariant-loop-at g l =
    let t = l.self-inside in
    record {
      same : length t.octets ≡ length l.initial.self-inside.octets;
      length : t.length ≡ l.from;
      inside : l.from ≤ l.at;
      front : take l.from t.octets ≡ l.fn.self;
      writing : Writing l.n (l.at - l.from) l.rest (slice_range t.octets l.at l.end);
    }

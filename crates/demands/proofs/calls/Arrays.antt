-- The promises of `arrays`.
-- Assumes nothing.
use mathlib.Core.Path.{sym, ◌∙◌}
use Rattle.demands.specs.calls.Arrays.{OfArrays}
use Rattle.demands.proofs.Promised.{left_same, exactly}

pub of_arrays : OfArrays
of_arrays = record {
  flag = λ yes. exactly;
  octet_of = λ n. exactly;
  count_of = λ n. exactly;
  entry = λ κs numbers at. exactly;
  put = λ κs array numbers. record {
    free = tt;
    gives = λ o m. left_same o _ m.answer m.left;
    one = λ o o' p q. left_same o o' (p.answer ∙ sym q.answer) (p.left ∙ sym q.left);
  };
  keep = λ κs array refusal numbers. record {
    free = tt;
    gives = λ o m. left_same o _ m.0 m.1;
    one = λ o o' p q. left_same o o' (p.0 ∙ sym q.0) (p.1 ∙ sym q.1);
  };
}

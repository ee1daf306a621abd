-- What can befall a frame so that its header is still read as it was sent.
use Rattle.std.specs.Prelude.{ℕ, ◌≤◌, ◌≡◌, List, ◌++◌, Bool, length, take, drop}
use Rattle.octets.specs.Basics.{pick, AllOctets, number}
use Rattle.repair.specs.Code.{distance}
use Rattle.repair.specs.Header.{own_octets}

-- the ten symbols of a frame's header: the halves of octets 0, 1, 5, 6 and 7
unfoldable pub ten_symbols : List ℕ → ℕ
ten_symbols f = number (take 2 f ++ take 3 (drop 5 f))

-- so many of them may be changed: two with error control, and none without it
unfoldable pub most_changed : Bool → ℕ
most_changed on = pick on 2 0

-- as many octets come as were sent; no more symbols are changed; the count and all behind the header are as they were sent
pub record Legible (on : Bool) (sent came : List ℕ) : Type 0 where
  pub octets_came : AllOctets came
  pub as_many : length came ≡ length sent
  pub few : distance 10 (ten_symbols came) (ten_symbols sent) ≤ most_changed on
  pub count_same : take 3 (drop 2 came) ≡ take 3 (drop 2 sent)
  pub behind_same : drop (own_octets on) came ≡ drop (own_octets on) sent

-- Frames by their octets: the ten symbols of a header, its count, and frames in which nothing is changed.
-- Assumes nothing.
use mathlib.Core.Path.{◌≡◌, refl, sym, ap, ap₂, ◌∙◌, subst}
use mathlib.Core.List.{List, [], ◌∷◌, ◌++◌}
use mathlib.Core.Bool.{Bool, true, false}
use Prim.Native.Nat.{ℕ, ◌+◌, ◌-◌, ◌*◌, ◌^◌, ◌<◌, ◌≤◌}
use native.Mathlib.Omega.{arith}
use lib.Bits.{bit_xor}
use lib.ListN.{length, take, drop, length-append, length-drop, take-append-drop}
use lib.Seq.{take_at, take-append-le, drop-append-le, length-take-le}
use Rattle.octets.specs.Basics.{AllOctets, number, octets, part}
use Rattle.octets.proofs.Fronts.{part-append, all_take}
use Rattle.octets.proofs.Numbers.{octets_again, run_lt, run_join}
use Rattle.octets.proofs.Sums.{xor_apart}
use Rattle.words.specs.Fields.{field}
use Rattle.repair.specs.Code.{symbol, distance}
use Rattle.repair.specs.Header.{six_of, covered, with_six, own_octets}
use Rattle.repair.specs.Changes.{ten_symbols, most_changed, Legible}
use Rattle.repair.proofs.Words.{symbol_xor, same_symbols, distance_none, apart_count}
use Rattle.repair.proofs.Values.{count_none}
use Rattle.repair.proofs.Headers.{covered_octets, six_lt, put_back}

pub own_least : (on : Bool) → 6 ≤ own_octets on
unfolding own_octets
own_least true = omega arith
own_least false = omega arith

pub own_most : (on : Bool) → own_octets on ≤ 8
unfolding own_octets
own_most true = omega arith
own_most false = omega arith

-- what a header and the two octets behind it are, as numbers
abbrev pub head_in : List ℕ → ℕ
head_in f = number (take 6 f)

abbrev pub after_in : List ℕ → ℕ
after_in f = number (take 2 (drop 6 f))

pub head_in_lt : (f : List ℕ) → AllOctets f → 8 ≤ length f → head_in f < 2 ^ 48
head_in_lt f all long = run_lt f 0 6 all (omega arith)

after_in_lt : (f : List ℕ) → AllOctets f → 8 ≤ length f → after_in f < 2 ^ 16
after_in_lt f all long = run_lt f 6 2 all (omega arith)

pub ten_covered : (f : List ℕ) → AllOctets f → 8 ≤ length f → ten_symbols f ≡ covered (head_in f) (after_in f)
unfolding ten_symbols
ten_covered (o0 ∷ o1 ∷ o2 ∷ o3 ∷ o4 ∷ o5 ∷ o6 ∷ o7 ∷ rest) all long =
    sym (covered_octets o0 o1 o2 o3 o4 o5 o6 o7 all.0 all.1.0 all.1.1.0 all.1.1.1.0 all.1.1.1.1.0 all.1.1.1.1.1.0)
ten_covered (o0 ∷ o1 ∷ o2 ∷ o3 ∷ o4 ∷ o5 ∷ o6 ∷ []) all long = absurd (omega arith)
ten_covered (o0 ∷ o1 ∷ o2 ∷ o3 ∷ o4 ∷ o5 ∷ []) all long = absurd (omega arith)
ten_covered (o0 ∷ o1 ∷ o2 ∷ o3 ∷ o4 ∷ []) all long = absurd (omega arith)
ten_covered (o0 ∷ o1 ∷ o2 ∷ o3 ∷ []) all long = absurd (omega arith)
ten_covered (o0 ∷ o1 ∷ o2 ∷ []) all long = absurd (omega arith)
ten_covered (o0 ∷ o1 ∷ []) all long = absurd (omega arith)
ten_covered (o0 ∷ []) all long = absurd (omega arith)
ten_covered [] all long = absurd (omega arith)

middle : (a m z : ℕ) → m < 2 ^ 24 → z < 2 ^ 8 → field (a * 2 ^ 32 + (m * 2 ^ 8 + z)) 8 24 ≡ m
unfolding field
middle a m z hm hz = omega arith

-- the count is what its three octets say
pub count_in_head : (f : List ℕ) → AllOctets f → 8 ≤ length f → field (head_in f) 8 24 ≡ number (take 3 (drop 2 f))
count_in_head f all long =
    let parts : head_in f ≡ number (take 2 f) * 2 ^ 32 + (number (take 3 (drop 2 f)) * 2 ^ 8 + number (take 1 (drop 5 f))) =
    run_join f 0 2 4 (omega arith) ∙ ap (λ (n : ℕ). number (take 2 f) * 2 ^ 32 + n) (run_join f 2 3 1 (omega arith)) in
    ap (λ (n : ℕ). field n 8 24) parts
    ∙ middle (number (take 2 f)) (number (take 3 (drop 2 f))) (number (take 1 (drop 5 f))) (run_lt f 2 3 all (omega arith)) (run_lt f 5 1 all (omega arith))

-- ---- no symbol changed

pub unchanged : (on : Bool) (f : List ℕ) → AllOctets f → Legible on f f
unchanged on f all = record {
  octets_came = all;
  as_many = refl;
  few = omega (arith, distance_none 10 (ten_symbols f));
  count_same = refl;
  behind_same = refl;
}

same_word : (u v : ℕ) → u < 16 ^ 10 → v < 16 ^ 10 → distance 10 u v ≤ 0 → u ≡ v
same_word u v hu hv none =
    same_symbols 10 u v hu hv
    (λ k h. xor_apart (symbol k u) (symbol k v)
    (sym (symbol_xor k u v) ∙ count_none 10 (λ k. symbol k (bit_xor u v)) (subst (λ (n : ℕ). n ≤ 0) (apart_count 10 u v) none) k h))

covered_lt : (head after : ℕ) → after < 2 ^ 16 → covered head after < 16 ^ 10
unfolding covered
covered_lt head after h = omega (arith, six_lt head)

same_six : (g h a b : ℕ) → a < 2 ^ 16 → b < 2 ^ 16 → covered g a ≡ covered h b → six_of g ≡ six_of h
unfolding covered
same_six g h a b ha hb e =
    let whole : six_of g * 16 ^ 4 + a ≡ six_of h * 16 ^ 4 + b = e in
    omega arith

-- ---- what two frames have in common

module _ (on : Bool) (sent came : List ℕ) (all : AllOctets sent) (long : 8 ≤ length came) (legible : Legible on sent came) where
  long_sent : 8 ≤ length sent
  long_sent = omega (arith, legible.as_many)

  pub counts : field (head_in came) 8 24 ≡ field (head_in sent) 8 24
  counts =
      count_in_head came legible.octets_came long ∙ ap number legible.count_same ∙ sym (count_in_head sent all long_sent)

  pub close : distance 10 (covered (head_in came) (after_in came)) (covered (head_in sent) (after_in sent)) ≤ most_changed on
  close =
      subst (λ (n : ℕ). distance 10 n (covered (head_in sent) (after_in sent)) ≤ most_changed on) (ten_covered came legible.octets_came long)
      (subst (λ (n : ℕ). distance 10 (ten_symbols came) n ≤ most_changed on) (ten_covered sent all long_sent) legible.few)

-- without error control they are the same
module _ (sent came : List ℕ) (all : AllOctets sent) (long : 8 ≤ length came) (legible : Legible false sent came) where
  none_changed : covered (head_in came) (after_in came) ≡ covered (head_in sent) (after_in sent)
  unfolding most_changed
  none_changed =
      same_word (covered (head_in came) (after_in came)) (covered (head_in sent) (after_in sent))
      (covered_lt (head_in came) (after_in came) (after_in_lt came legible.octets_came long))
      (covered_lt (head_in sent) (after_in sent) (after_in_lt sent all (long_sent false sent came all long legible)))
      (close false sent came all long legible)

  pub same_head : head_in came ≡ head_in sent
  same_head =
      let long-too : 8 ≤ length sent = long_sent false sent came all long legible in
      let short : head_in came < 2 ^ 48 = head_in_lt came legible.octets_came long in
      sym (put_back (head_in came) (head_in came) short short refl)
      ∙ ap (with_six (head_in came))
      (same_six (head_in came) (head_in sent) (after_in came) (after_in sent) (after_in_lt came legible.octets_came long) (after_in_lt sent all long-too) none_changed)
      ∙ put_back (head_in came) (head_in sent) short (head_in_lt sent all long-too) (counts false sent came all long legible)

  pub same_frame : came ≡ sent
  unfolding own_octets
  same_frame =
      let front : take 6 came ≡ take 6 sent =
      sym (octets_again came 0 6 legible.octets_came (omega arith)) ∙ ap (octets 6) same_head
      ∙ octets_again sent 0 6 all (omega (arith, long_sent false sent came all long legible)) in
      sym (take-append-drop 6 came) ∙ ap₂ ◌++◌ front legible.behind_same ∙ take-append-drop 6 sent

-- ---- the front of a frame

module _ (a b : List ℕ) (long : 8 ≤ length a) where
  pub ten_front : ten_symbols (a ++ b) ≡ ten_symbols a
  unfolding ten_symbols part
  ten_front = ap₂ (λ (x y : List ℕ). number (x ++ y)) (take-append-le 2 a b (omega arith)) (part-append 5 8 a b (omega arith) (omega arith))

  pub head_front : head_in (a ++ b) ≡ head_in a
  head_front = ap number (take-append-le 6 a b (omega arith))

  pub after_front : after_in (a ++ b) ≡ after_in a
  unfolding part
  after_front = ap number (part-append 6 8 a b (omega arith) (omega arith))

  count_front : take 3 (drop 2 (a ++ b)) ≡ take 3 (drop 2 a)
  unfolding part
  count_front = part-append 2 5 a b (omega arith) (omega arith)

-- what is legible is so in front
module _ (on : Bool) (a b came : List ℕ) (long : 8 ≤ length a) (legible : Legible on (a ++ b) came) where
  abbrev front : List ℕ
  front = take (length a) came

  abbrev rest : List ℕ
  rest = drop (length a) came

  as_parts : front ++ rest ≡ came
  as_parts = take-append-drop (length a) came

  length_came : length came ≡ length a + length b
  length_came = legible.as_many ∙ length-append a b

  length_front : length front ≡ length a
  length_front = length-take-le (length a) came (omega (arith, length_came))

  long_front : 8 ≤ length front
  long_front = omega (arith, length_front)

  own_within : own_octets on ≤ length a
  own_within = omega (arith, own_most on)

  pub legible_front : Legible on a front
  legible_front = record {
    octets_came = all_take (length a) came legible.octets_came;
    as_many = length_front;
    few =
        subst (λ (n : ℕ). distance 10 n (ten_symbols a) ≤ most_changed on) (ap ten_symbols (sym as_parts) ∙ ten_front front rest long_front)
        (subst (λ (n : ℕ). distance 10 (ten_symbols came) n ≤ most_changed on) (ten_front a b long) legible.few);
    count_same =
        sym (count_front front rest long_front) ∙ ap (λ (f : List ℕ). take 3 (drop 2 f)) as_parts ∙ legible.count_same ∙ count_front a b long;
    behind_same =
        let k : ℕ = own_octets on in
        let m : length (drop k front) ≡ length (drop k a) = length-drop k front ∙ ap (λ (n : ℕ). n - k) length_front ∙ sym (length-drop k a) in
        sym (take_at (drop k front) rest (length (drop k a)) m)
        ∙ ap (take (length (drop k a)))
        (sym (drop-append-le k front rest (omega (arith, length_front, own_within))) ∙ ap (drop k) as_parts ∙ legible.behind_same ∙ drop-append-le k a b own_within)
        ∙ take_at (drop k a) b (length (drop k a)) refl;
  }

-- Header error control as a setting: each law once, for on and off alike.
-- Assumes nothing.
use mathlib.Core.Path.{◌≡◌, refl, sym, ap, ap₂, ◌∙◌, subst}
use mathlib.Core.Logic.{◌⊎◌, inl, inr}
use mathlib.Core.List.{List, [], ◌++◌, append_assoc, append-nil}
use mathlib.Core.Bool.{Bool, true, false}
use Prim.Native.Nat.{ℕ, ◌+◌, ◌*◌, ◌/◌, ◌%◌, ◌^◌, ◌<◌, ◌≤◌}
use native.Mathlib.Omega.{arith}
use lib.ListN.{length, take, drop, length-append, length-drop, take-append-drop}
use lib.Seq.{take_at, drop_at}
use Rattle.octets.specs.Basics.{AllOctets, number, octets, laid, over}
use Rattle.octets.proofs.Choices.{apart}
use Rattle.octets.proofs.Fronts.{all_append, all_drop, all_octets}
use Rattle.octets.proofs.Numbers.{number_octets, octets_again}
use Rattle.octets.proofs.Written.{length-octets, laid_within, length_over, over_over}
use Rattle.words.specs.Fields.{field, placed}
use Rattle.words.proofs.Fields.{placed_read, placed_below, placed_above, placed_lt, placed_within}
use Rattle.repair.specs.Code.{Answer, written, distance, reading, Near, Reads, read_as, beyond}
use Rattle.repair.specs.Header.{six_of, header_checks, covered, with_six, header_reading, own_octets, own_written, checked, own_reading, own_header}
use Rattle.repair.specs.Changes.{ten_symbols, most_changed, Legible}
use Rattle.repair.specs.Statements.{HeaderRead}
use Rattle.repair.proofs.Roots.{checks_lt}
use Rattle.repair.proofs.Nearest.{right_lt, reading_rule}
use Rattle.repair.proofs.Reading.{again}
use Rattle.repair.proofs.Headers.{covered_written, header_as_sent, refused_by, read_by}
use Rattle.repair.proofs.Changed.{head_front, after_front, head_in, after_in, head_in_lt, ten_covered, count_in_head, unchanged, counts, close, same_head}

-- ---- what is written

pub length-own : (on : Bool) (head : ℕ) → length (own_written on head) ≡ own_octets on
unfolding own_written own_octets
length-own true head = length-append (octets 6 head) (octets 2 (header_checks head)) ∙ simp length-octets
length-own false head = length-append (octets 6 head) [] ∙ simp length-octets

pub all_own : (on : Bool) (head : ℕ) → AllOctets (own_written on head)
unfolding own_written
all_own true head = all_append (octets 6 head) (octets 2 (header_checks head)) (all_octets 6 head) (all_octets 2 (header_checks head))
all_own false head = all_append (octets 6 head) [] (all_octets 6 head) tt

-- the six octets are laid first, and then the check symbols
pub own_laid : (on : Bool) (d : List ℕ) (head : ℕ) → own_octets on ≤ length d → checked on (laid d 0 (octets 6 head)) head ≡ over d 0 (own_written on head)
unfolding own_octets own_written checked
own_laid true d head room =
    let six : length (octets 6 head) ≡ 6 = length-octets 6 head in
    let two : length (octets 2 (header_checks head)) ≡ 2 = length-octets 2 (header_checks head) in
    let place : 0 + length (octets 6 head) ≡ 6 = omega arith in
    let same : length (over d 0 (octets 6 head)) ≡ length d = length_over d 0 (octets 6 head) (omega arith) in
    ap (λ (e : List ℕ). laid e 6 (octets 2 (header_checks head))) (laid_within d 0 (octets 6 head) (omega arith))
    ∙ laid_within (over d 0 (octets 6 head)) 6 (octets 2 (header_checks head)) (omega arith)
    ∙ ap (λ (k : ℕ). over (over d 0 (octets 6 head)) k (octets 2 (header_checks head))) (sym place)
    ∙ over_over d 0 (octets 6 head) (octets 2 (header_checks head)) (omega arith)
own_laid false d head room =
    laid_within d 0 (octets 6 head) (omega (arith, length-octets 6 head)) ∙ ap (over d 0) (sym (append-nil (octets 6 head)))

-- ---- as it is read from a frame that begins with it

module _ (on : Bool) (head : ℕ) (behind : List ℕ) (short : head < 2 ^ 48) where
  abbrev sent : List ℕ
  sent = own_written on head ++ behind

  pub head_sent : head_in sent ≡ head
  unfolding own_written
  head_sent =
      ap (λ (f : List ℕ). number (take 6 f)) (append_assoc (octets 6 head) _ behind)
      ∙ ap number (take_at (octets 6 head) _ 6 (length-octets 6 head)) ∙ number_octets 6 head short

  pub behind_sent : drop (own_octets on) sent ≡ behind
  behind_sent = drop_at (own_written on head) behind (own_octets on) (length-own on head)

-- the check symbols behind it
after_sent : (head : ℕ) (behind : List ℕ) → after_in (own_written true head ++ behind) ≡ header_checks head
unfolding own_written header_checks
after_sent head behind =
    ap (λ (f : List ℕ). number (take 2 (drop 6 f))) (append_assoc (octets 6 head) _ behind)
    ∙ ap (λ (f : List ℕ). number (take 2 f)) (drop_at (octets 6 head) _ 6 (length-octets 6 head))
    ∙ ap number (take_at (octets 2 (header_checks head)) behind 2 (length-octets 2 (header_checks head)))
    ∙ number_octets 2 (header_checks head) (checks_lt (six_of head))

-- a frame has the header of its front
pub own_front : (on : Bool) (a b : List ℕ) → 8 ≤ length a → own_header on (a ++ b) ≡ own_header on a
unfolding own_header
own_front on a b long = ap₂ (own_reading on) (head_front a b long) (after_front a b long)

-- all that was sent are octets, since all that came are
pub all_sent : (on : Bool) (head : ℕ) (behind came : List ℕ) → Legible on (own_written on head ++ behind) came → AllOctets (own_written on head ++ behind)
all_sent on head behind came legible =
    all_append (own_written on head) behind (all_own on head)
    (subst AllOctets (legible.behind_same ∙ drop_at (own_written on head) behind (own_octets on) (length-own on head))
    (all_drop (own_octets on) came legible.octets_came))

-- A HEADER AS SENT
pub as_sent : (on : Bool) (head : ℕ) (behind came : List ℕ) → head < 2 ^ 48 → 8 ≤ length came → Legible on (own_written on head ++ behind) came
    → own_header on came ≡ record { refusal = 0; read = head }
unfolding own_header own_reading most_changed
as_sent true head behind came short long legible =
    let all : AllOctets (own_written true head ++ behind) = all_sent true head behind came legible in
    header_as_sent head (head_in came) (after_in came) short (head_in_lt came legible.octets_came long)
    (counts true _ came all long legible ∙ ap (λ (n : ℕ). field n 8 24) (head_sent true head behind short))
    (subst (λ (n : ℕ). distance 10 (covered (head_in came) (after_in came)) n ≤ 2)
    (ap₂ covered (head_sent true head behind short) (after_sent head behind)) (close true _ came all long legible))
as_sent false head behind came short long legible =
    ap (λ (n : ℕ). record { refusal = 0; read = n })
    (same_head _ came (all_sent false head behind came legible) long legible ∙ head_sent false head behind short)

-- ---- a header that is repaired

module _ (head six : ℕ) (short : head < 2 ^ 48) (small : six < 2 ^ 24) where
  first_put : placed head 0 8 six < 2 ^ 64
  first_put = placed_lt head 0 8 six (omega arith) (omega arith)

  with_six_lt : with_six head six < 2 ^ 48
  unfolding with_six
  with_six_lt =
      placed_within (placed head 0 8 six) 32 16 (six / 2 ^ 8) first_put (omega arith) 48
      (placed_within head 0 8 six (omega arith) (omega arith) 48 short (omega arith)) (omega arith)

  -- its covered octets are those that are put in
  six_put : six_of (with_six head six) ≡ six
  unfolding six_of with_six
  six_put =
      let above : field (with_six head six) 32 16 ≡ six / 2 ^ 8 % 2 ^ 16 = placed_read (placed head 0 8 six) 32 16 (six / 2 ^ 8) first_put (omega arith) in
      let below : field (with_six head six) 0 8 ≡ six % 2 ^ 8 =
      placed_below (placed head 0 8 six) 32 16 (six / 2 ^ 8) first_put (omega arith) 0 8 (omega arith)
      ∙ placed_read head 0 8 six (omega arith) (omega arith) in
      let whole : six / 2 ^ 8 % 2 ^ 16 * 2 ^ 8 + six % 2 ^ 8 ≡ six = omega arith in
      ap₂ (λ (a b : ℕ). a * 2 ^ 8 + b) above below ∙ whole

  -- and its count stays
  count_stays : field (with_six head six) 8 24 ≡ field head 8 24
  unfolding with_six
  count_stays =
      placed_below (placed head 0 8 six) 32 16 (six / 2 ^ 8) first_put (omega arith) 8 24 (omega arith)
      ∙ placed_above head 0 8 six (omega arith) (omega arith) 8 24 (omega arith)

-- three octets by their number
same_three : (f g : List ℕ) → AllOctets f → AllOctets g → 8 ≤ length f → 8 ≤ length g → field (head_in f) 8 24 ≡ field (head_in g) 8 24
    → take 3 (drop 2 f) ≡ take 3 (drop 2 g)
same_three f g all-f all-g long-f long-g e =
    sym (octets_again f 2 3 all-f (omega arith))
    ∙ ap (octets 3) (sym (count_in_head f all-f long-f) ∙ e ∙ count_in_head g all-g long-g)
    ∙ octets_again g 2 3 all-g (omega arith)

module _ (came : List ℕ) (all : AllOctets came) (long : 8 ≤ length came) (head : ℕ) (short : head < 2 ^ 48)
    (counted : field head 8 24 ≡ field (head_in came) 8 24)
    (near : distance 10 (covered (head_in came) (after_in came)) (covered head (header_checks head)) ≤ 2) where
  abbrev behind : List ℕ
  behind = drop (own_octets true) came

  all_again : AllOctets (own_written true head ++ behind)
  all_again = all_append (own_written true head) behind (all_own true head) (all_drop (own_octets true) came all)

  many : length (own_written true head ++ behind) ≡ length came
  unfolding own_octets
  many = omega (arith, length-append (own_written true head) behind, length-own true head, length-drop 8 came)

  long_again : 8 ≤ length (own_written true head ++ behind)
  long_again = omega (arith, many)

  repaired_so : Legible true (own_written true head ++ behind) came
  unfolding most_changed
  repaired_so = record {
    octets_came = all;
    as_many = sym many;
    few =
        subst (λ (n : ℕ). distance 10 n (ten_symbols (own_written true head ++ behind)) ≤ 2) (sym (ten_covered came all long))
        (subst (λ (n : ℕ). distance 10 (covered (head_in came) (after_in came)) n ≤ 2)
        (sym (ten_covered (own_written true head ++ behind) all_again long_again
        ∙ ap₂ covered (head_sent true head behind short) (after_sent head behind)))
        near);
    count_same =
        same_three came (own_written true head ++ behind) all all_again long long_again
        (sym counted ∙ sym (ap (λ (n : ℕ). field n 8 24) (head_sent true head behind short)));
    behind_same = sym (behind_sent true head behind short);
  }

-- ---- ONE THAT IS NOT REFUSED WAS SENT SO

abbrev Sent : Bool → List ℕ → Answer → Type 0
Sent on came answer = (answer.read < 2 ^ 48) × Legible on (own_written on answer.read ++ drop (own_octets on) came) came

-- by the word that its ten symbols are read as
module _ (came : List ℕ) (all : AllOctets came) (long : 8 ≤ length came) where
  abbrev word : ℕ
  word = covered (head_in came) (after_in came)

  by_word : (v : ℕ) → Near word v → Sent true came (record { refusal = 0; read = with_six (head_in came) (v / 16 ^ 4) })
  by_word v near =
      let six : ℕ = v / 16 ^ 4 in
      let small : six < 2 ^ 24 = six_small v near in
      let short : head_in came < 2 ^ 48 = head_in_lt came all long in
      let head : ℕ = with_six (head_in came) six in
      let its : covered head (header_checks head) ≡ v = covered_written head ∙ ap written (six_put (head_in came) six short small) ∙ sym (again v near.right) in (
        with_six_lt (head_in came) six short small,
        repaired_so came all long head (with_six_lt (head_in came) six short small) (count_stays (head_in came) six short small)
            (subst (λ (n : ℕ). distance 10 word n ≤ 2) (sym its) near.close),
      )
    where
      six_small : (v : ℕ) → Near word v → v / 16 ^ 4 < 2 ^ 24
      six_small v near = omega (arith, right_lt v near.right)

  by_reading : Reads word (reading word) → (header_reading (head_in came) (after_in came)).refusal ≡ 0 → Sent true came (header_reading (head_in came) (after_in came))
  by_reading (read_as none near) e =
      subst (Sent true came) (read_by (head_in came) (after_in came) (reading word) refl none) (by_word (reading word).read near)
  by_reading (beyond refused none-word none) e =
      let says : (header_reading (head_in came) (after_in came)).refusal ≡ 14 =
      ap (λ (r : Answer). r.refusal) (sym (refused_by (head_in came) (after_in came) (reading word) refl (λ zero. apart (omega arith)))) ∙ refused in
      apart (omega arith)

pub sent_so : (on : Bool) (came : List ℕ) → AllOctets came → 8 ≤ length came → (own_header on came).refusal ≡ 0 → Sent on came (own_header on came)
unfolding own_header own_reading own_octets own_written
sent_so true came all long e = by_reading came all long (reading_rule (word came all long)) e
sent_so false came all long e =
    let same : (octets 6 (head_in came) ++ []) ++ drop 6 came ≡ came =
    ap (◌++ drop 6 came) (append-nil (octets 6 (head_in came)) ∙ octets_again came 0 6 all (omega arith)) ∙ take-append-drop 6 came in
    (head_in_lt came all long, subst (λ (f : List ℕ). Legible false f came) (sym same) (unchanged false came all))

-- ---- AND ANY OTHER IS REFUSED

refused_or : (head after : ℕ) → Reads (covered head after) (reading (covered head after))
    → ((header_reading head after).refusal ≡ 0) ⊎ (header_reading head after ≡ record { refusal = 14; read = 0 })
refused_or head after (read_as none near) =
    inl (ap (λ (r : Answer). r.refusal) (sym (read_by head after (reading (covered head after)) refl none)))
refused_or head after (beyond refused none-word none) =
    inr (sym (refused_by head after (reading (covered head after)) refl (λ zero. apart (omega arith)))
    ∙ ap (λ (n : ℕ). record { refusal = n; read = 0 }) refused)

pub refused : (on : Bool) (came : List ℕ) → ((own_header on came).refusal ≡ 0) ⊎ (own_header on came ≡ record { refusal = 14; read = 0 })
unfolding own_header own_reading
refused true came = refused_or (head_in came) (after_in came) (reading_rule (covered (head_in came) (after_in came)))
refused false came = inl refl

pub header_read : (on : Bool) → HeaderRead on
header_read on = record { as_sent = as_sent on; sent_so = sent_so on; refused = refused on }

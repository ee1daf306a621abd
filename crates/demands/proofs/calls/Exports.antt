-- The promises of the C interface: one law for each set of arrays that a call leaves.
-- Assumes nothing.
use mathlib.Core.Path.{◌≡◌, refl, sym, ap, ◌∙◌}
use mathlib.Core.List.{List, []}
use Prim.Native.Nat.{ℕ}
use Rattle.exports.specs.Left.{Left, left}
use Rattle.exports.proofs.Theorems.{stated_again, parts_named}
use Rattle.exports.proofs.Readers.{readers_exact}
use Rattle.exports.proofs.Tables.{tables_loaded}
use Rattle.exports.proofs.Zeros.{zero_is_refused}
use Rattle.demands.specs.Promises.{Is}
use Rattle.demands.proofs.calls.Refused.{refused_keep}
use Rattle.demands.specs.calls.Exports.{leaving, Each, NoNumbers, NoOctets, NoAnswer, NumbersAlone, OctetsAlone, AnswerAlone, OfExports}

-- an outcome without the arrays that the call has not is what is seen of it
seen_as : {lacks : Left → Type 0} (view : Left → Left) → ((o : Left) → lacks o → o ≡ view o) → {given : Left}
    → Is (leaving lacks (Unit {0}) (λ o. view o ≡ given)) given
seen_as view same = record {
  free = tt;
  gives = λ o m. same o m.1 ∙ m.0;
  one = λ o o' p q. same o p.1 ∙ p.0 ∙ sym (same o' q.1 ∙ q.0);
}

-- the arrays that are empty, put in
numbers_out : (o : Left) → NoNumbers o → o ≡ left o.refusal [] o.octets o.answer
numbers_out o e = ap (λ (ns : List ℕ). left o.refusal ns o.octets o.answer) e

octets_out : (o : Left) → NoOctets o → o ≡ left o.refusal o.numbers [] o.answer
octets_out o e = ap (λ (os : List ℕ). left o.refusal o.numbers os o.answer) e

answer_out : (o : Left) → NoAnswer o → o ≡ left o.refusal o.numbers o.octets []
answer_out o e = ap (λ (ns : List ℕ). left o.refusal o.numbers o.octets ns) e

module _ {given : Left} where
  each : Is (leaving Each (Unit {0}) (λ o. left o.refusal o.numbers o.octets o.answer ≡ given)) given
  each = seen_as (λ o. o) (λ o e. refl)

  no_numbers : Is (leaving NoNumbers (Unit {0}) (λ o. left o.refusal [] o.octets o.answer ≡ given)) given
  no_numbers = seen_as (λ o. left o.refusal [] o.octets o.answer) numbers_out

  no_octets : Is (leaving NoOctets (Unit {0}) (λ o. left o.refusal o.numbers [] o.answer ≡ given)) given
  no_octets = seen_as (λ o. left o.refusal o.numbers [] o.answer) octets_out

  no_answer : Is (leaving NoAnswer (Unit {0}) (λ o. left o.refusal o.numbers o.octets [] ≡ given)) given
  no_answer = seen_as (λ o. left o.refusal o.numbers o.octets []) answer_out

  numbers_alone : Is (leaving NumbersAlone (Unit {0}) (λ o. left o.refusal o.numbers [] [] ≡ given)) given
  numbers_alone =
      seen_as (λ o. left o.refusal o.numbers [] [])
      (λ o e. octets_out o e.0 ∙ answer_out (left o.refusal o.numbers [] o.answer) e.1)

  octets_alone : Is (leaving OctetsAlone (Unit {0}) (λ o. left o.refusal [] o.octets [] ≡ given)) given
  octets_alone =
      seen_as (λ o. left o.refusal [] o.octets [])
      (λ o e. numbers_out o e.0 ∙ answer_out (left o.refusal [] o.octets o.answer) e.1)

  answer_alone : Is (leaving AnswerAlone (Unit {0}) (λ o. left o.refusal [] [] o.answer ≡ given)) given
  answer_alone =
      seen_as (λ o. left o.refusal [] [] o.answer)
      (λ o e. numbers_out o e.0 ∙ octets_out (left o.refusal [] o.octets o.answer) e.1)

pub of_exports : OfExports
of_exports = record {
  read_header = λ κs limit octets answer. answer_alone;
  well_formed = λ κs limit packet answer. answer_alone;
  wrap = λ κs limit protocol extension unit packet answer. no_numbers;
  unwrap = λ κs limit packet answer. answer_alone;
  unit_part = λ κs unwrapped packet answer. answer_alone;
  read_space = λ κs octets answer. answer_alone;
  write_space = λ κs header octets. octets_alone;
  mux_begin = λ κs array. numbers_alone;
  mux_put = λ κs settings array packet frame answer. each;
  mux_flush = λ κs settings array frame answer. each;
  mux_idle = λ κs settings array frame. no_answer;
  extractor_enter = λ κs settings array store frame answer. no_octets;
  extractor_step = λ κs settings array store frame answer. each;
  show = λ κs step frame store answer. answer_alone;
  judge_frame = λ κs settings array store frame. no_answer;
  judge_tape = λ κs settings array store tape. no_answer;
  judge_close = λ κs settings array store answer. answer_alone;
  bits_write = λ κs settings array bits n frame. no_answer;
  bits_read = λ κs settings array frame answer. no_octets;
  relay_load = λ κs entries table. numbers_alone;
  relay_route = λ κs limit table packet destinations answer. no_numbers;
  stated_again = stated_again;
  readers_exact = readers_exact;
  tables_loaded = tables_loaded;
  parts_named = parts_named;
  refused_keep = refused_keep;
  zero_is_refused = zero_is_refused;
}

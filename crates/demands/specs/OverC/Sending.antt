-- A multiplexer used with care through the C interface: the orders of `Careful`, each of them a call over arrays of numbers.
use Rattle.std.specs.Prelude.{ℕ, zero, suc, List, [], ◌∷◌, ◌++◌, Bool, length, take, get_or, eqb}
use Rattle.octets.specs.Basics.{pick}
use Rattle.frames.specs.Frame.{frame_length}
use Rattle.multiplexer.specs.Calls.{Call, to_put, to_flush, to_idle}
use Rattle.exports.specs.Left.{Left}
use Rattle.exports.specs.Channel.{settings_of}
use Rattle.exports.specs.Mux.{mux_of, begin_leaves, put_numbers, flush_numbers, no_numbers, mux_leaves}
use Rattle.carries.specs.Careful.{Sending}

-- what a caller has: the record's array, the answer's array, the frame that is lent now, the frames that are written, and what
-- each call returned
pub record SendingInC : Type 0 where
  pub numbers : List ℕ
  pub answer : List ℕ
  pub frame : List ℕ
  pub written : List (List ℕ)
  pub refusals : List ℕ

-- the same with the record that the array states
abbrev pub as_sending : SendingInC → Sending
as_sending x = record { mux = mux_of x.numbers; frame = x.frame; written = x.written; refusals = x.refusals }

-- the start: any two arrays, and `itz_mux_begin` with one of them
abbrev pub set_out_in_c : List ℕ → List ℕ → (ℕ → List ℕ) → SendingInC
set_out_in_c array answer lend =
    record { numbers = (begin_leaves array).numbers; answer = answer; frame = lend 0; written = []; refusals = [] }

-- what the answer's array says after `itz_mux_put`: [0] is 1 where the zone is full, [1] where the packet is taken
abbrev pub says_full : List ℕ → Bool
says_full answer = eqb (get_or answer 0 0) 1

abbrev pub says_taken : List ℕ → Bool
says_taken answer = eqb (get_or answer 1 0) 1

-- and after `itz_mux_flush`: [0] is 2 where a frame was written
abbrev pub says_flushed : List ℕ → Bool
says_flushed answer = eqb (get_or answer 0 0) 2

-- What the call left is lent to the next. Where the caller saw that the frame is full, its Z + 8 octets are written and the next is lent.
abbrev pub left_by : List ℕ → (ℕ → List ℕ) → SendingInC → Left → List ℕ → Bool → SendingInC
left_by settings lend x l answer full =
    record {
      numbers = l.numbers;
      answer = answer;
      frame = pick full (lend (suc (length x.written))) l.octets;
      written = pick full (x.written ++ (take (frame_length (settings_of settings)) l.octets ∷ [])) x.written;
      refusals = l.refusal ∷ x.refusals;
    }

-- `itz_mux_put`, `itz_mux_flush` and `itz_mux_idle`; the last has no answer, and writes a frame where it returned 0
unfoldable pub after_in_c : List ℕ → (ℕ → List ℕ) → SendingInC → Call → SendingInC
after_in_c settings lend x (to_put p) =
    let l : Left = mux_leaves (to_put p) 3 put_numbers settings x.numbers x.frame x.answer in
    left_by settings lend x l l.answer (says_full l.answer)
after_in_c settings lend x to_flush =
    let l : Left = mux_leaves to_flush 1 flush_numbers settings x.numbers x.frame x.answer in
    left_by settings lend x l l.answer (says_flushed l.answer)
after_in_c settings lend x to_idle =
    let l : Left = mux_leaves to_idle 0 no_numbers settings x.numbers x.frame [] in
    left_by settings lend x l x.answer (eqb l.refusal 0)

-- calls with one packet until the answer says that it is taken, as many as it has octets at most
unfoldable pub until_taken_in_c : ℕ → List ℕ → (ℕ → List ℕ) → List ℕ → SendingInC → SendingInC
until_taken_in_c zero settings lend p x = x
until_taken_in_c (suc n) settings lend p x =
    let y : SendingInC = after_in_c settings lend x (to_put p) in
    pick (says_taken y.answer) y (until_taken_in_c n settings lend p y)

-- one order: a packet, until it is taken; a flush; an idle zone, before which a begun one is flushed
unfoldable pub with_care_in_c : List ℕ → (ℕ → List ℕ) → SendingInC → Call → SendingInC
with_care_in_c settings lend x (to_put p) = until_taken_in_c (length p) settings lend p x
with_care_in_c settings lend x to_flush = after_in_c settings lend x to_flush
with_care_in_c settings lend x to_idle = after_in_c settings lend (after_in_c settings lend x to_flush) to_idle

-- the orders of a list, closed by a flush
unfoldable pub run_from_in_c : List ℕ → (ℕ → List ℕ) → SendingInC → List Call → SendingInC
run_from_in_c settings lend x [] = after_in_c settings lend x to_flush
run_from_in_c settings lend x (c ∷ cs) = run_from_in_c settings lend (with_care_in_c settings lend x c) cs

abbrev pub run_in_c : List ℕ → List ℕ → List ℕ → (ℕ → List ℕ) → List Call → SendingInC
run_in_c settings array answer lend cs = run_from_in_c settings lend (set_out_in_c array answer lend) cs

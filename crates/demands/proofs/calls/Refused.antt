-- A refused call of the C interface leaves its record's array and its octets as they were lent.
-- Assumes nothing.
use Prim.Native.Nat.{ℕ, ◌/◌, ◌%◌}
use mathlib.Core.Path.{◌≡◌, refl, ap}
use mathlib.Core.List.{List}
use lib.ListN.{length}
use mathlib.Core.Bool.{not}
use lib.Dec.{ltb, eqb}
use borrow.Author.Tests.{ne_eqb}
use Rattle.octets.specs.Basics.{or, first}
use Rattle.octets.proofs.Tests.{test}
use Rattle.wrapping.specs.Wrap.{wrapped_total, wrap_rows, wrapping}
use Rattle.relay.specs.Table.{empty, loading}
use Rattle.relay.specs.Route.{route_rows, routing}
use Rattle.relay.specs.declared.Table.{Table}
use Rattle.relay.proofs.Ways.{written_unrefused}
use Rattle.space.specs.Space.{space_rows, space_writing}
use Rattle.space.specs.declared.SpaceHeader.{SpaceHeader}
use Rattle.frames.specs.declared.Settings.{Settings}
use Rattle.frames.specs.declared.bits.BitSettings.{BitSettings}
use Rattle.multiplexer.specs.Calls.{Call, call_rows, answer}
use Rattle.multiplexer.specs.declared.Mux.{Mux}
use Rattle.extractor.specs.Records.{step_rows, step_call}
use Rattle.extractor.specs.Answers.{enter_answer, step_answer}
use Rattle.extractor.specs.declared.Extractor.{Extractor}
use Rattle.judge.specs.Calls.{JudgeSaid, Calling}
use Rattle.judge.specs.Statements as judge
use Rattle.judge.proofs.Theorems.{keeps_to_the_test}
use Rattle.bitstream.specs.Bitstream.{write_rows, written, reading}
use Rattle.bitstream.specs.declared.Writer.{Writer}
use Rattle.exports.specs.Channel.{short, settings_of}
use Rattle.exports.specs.Packet.{wrap_leaves}
use Rattle.exports.specs.Spaces.{header_of, write_space_leaves}
use Rattle.exports.specs.Mux.{mux_of, mux_leaves}
use Rattle.exports.specs.Extract.{extractor_of, enter_leaves, step_leaves}
use Rattle.exports.specs.Judging.{judge_of, judging_leaves}
use Rattle.exports.specs.Bits.{bits_short, bit_settings_of, writer_of, write_leaves, reader_of, read_leaves}
use Rattle.exports.specs.Relaying.{table_of, wide, load_leaves, route_leaves}
use Rattle.exports.specs.Relaying as relaying
use Rattle.demands.specs.calls.Exports.{Keeps, RefusedKeep}
use Rattle.demands.proofs.calls.Extractor.{unrefused}

-- ---- what the library's own calls keep

answer_kept : (s : Settings) (m : Mux) (c : Call) (frame : List ℕ) → ((answer s m c frame).refusal ≡ 0 → ⊥) → (answer s m c frame).frame ≡ frame
unfolding answer
answer_kept s m c frame h =
    test (eqb (first (call_rows s m c (length frame))) 0) (λ t. absurd (h (rw t refl))) (λ t. rw t refl)

step_kept : (s : Settings) (x : Extractor) (store f : List ℕ) → ((step_answer s x store f).answer.refusal ≡ 0 → ⊥) → (step_answer s x store f).store ≡ store
unfolding step_answer step_call
step_kept s x store f h =
    test (eqb (first (step_rows s x store f)) 0) (λ t. absurd (h (rw t (unrefused s f store x)))) (λ t. rw t refl)

written_kept : (s : BitSettings) (w : Writer) (bits : List ℕ) (n : ℕ) (frame : List ℕ) → ((written s w bits n frame).said.refusal ≡ 0 → ⊥)
    → (written s w bits n frame).frame ≡ frame
unfolding written
written_kept s w bits n frame h =
    test (eqb (first (write_rows s w n (length bits) (length frame))) 0) (λ t. absurd (h (rw t refl))) (λ t. rw t refl)

wrapped_kept : (limit protocol extension : ℕ) (unit output : List ℕ) → ((wrapping limit protocol extension unit output).refusal ≡ 0 → ⊥)
    → (wrapping limit protocol extension unit output).output ≡ output
unfolding wrapping
wrapped_kept limit protocol extension unit output h =
    test (eqb (first (wrap_rows limit protocol extension (length unit) (wrapped_total protocol (length unit)) (length output))) 0)
    (λ t. absurd (h (rw t refl))) (λ t. rw t refl)

space_kept : (h : SpaceHeader) (output : List ℕ) → ((space_writing h output).refusal ≡ 0 → ⊥) → (space_writing h output).output ≡ output
unfolding space_writing
space_kept h output refused = rw (ne_eqb (first (space_rows h (length output))) 0 refused) refl

routed_kept : (limit : ℕ) (t : Table) (p output : List ℕ) → ((routing limit t p output).refusal ≡ 0 → ⊥) → (routing limit t p output).output ≡ output
unfolding routing
routed_kept limit t p output h =
    test (eqb (first (route_rows limit t p (length output))) 0) (λ k. absurd (h (rw k (written_unrefused _ output)))) (λ k. rw k refl)

-- ---- and what is left of them in arrays

judged_kept : {call : Calling} → judge.Keeps call → (settings numbers store os : List ℕ) → Keeps (judging_leaves call settings numbers store os) numbers store
unfolding judging_leaves
judged_kept {call} keeps settings numbers store os =
    let a : JudgeSaid = call (settings_of settings) store (judge_of numbers) os in
    test (short (length settings) (length numbers) 0 0) (λ t. rw t (λ h. (refl, refl)))
    (λ t. rw t (λ h. (rw (ne_eqb a.refusal 0 h) refl, ap (λ (b : JudgeSaid). b.store) (keeps.refused (settings_of settings) store (judge_of numbers) os h))))

pub refused_keep : RefusedKeep
unfolding mux_leaves enter_leaves step_leaves write_leaves read_leaves wrap_leaves write_space_leaves load_leaves route_leaves
refused_keep = record {
  mux = λ call room said settings numbers frame array.
      let a = answer (settings_of settings) (mux_of numbers) call frame in
      test (short (length settings) (length numbers) (length array) room) (λ t. rw t (λ h. (refl, refl)))
      (λ t. rw t (λ h. (rw (ne_eqb a.refusal 0 h) refl, answer_kept (settings_of settings) (mux_of numbers) call frame h)));
  enter = λ settings numbers store frame array.
      let a = enter_answer (settings_of settings) (extractor_of numbers) store frame in
      test (short (length settings) (length numbers) (length array) 7) (λ t. rw t (λ h. (refl, refl)))
      (λ t. rw t (λ h. (rw (ne_eqb a.answer.refusal 0 h) refl, refl)));
  step = λ settings numbers store frame array.
      let a = step_answer (settings_of settings) (extractor_of numbers) store frame in
      test (short (length settings) (length numbers) (length array) 5) (λ t. rw t (λ h. (refl, refl)))
      (λ t. rw t (λ h. (rw (ne_eqb a.answer.refusal 0 h) refl, step_kept (settings_of settings) (extractor_of numbers) store frame h)));
  judge = judged_kept keeps_to_the_test.frame;
  tape = judged_kept keeps_to_the_test.tape;
  bits_written = λ settings numbers bits n frame.
      let a = written (bit_settings_of settings) (writer_of numbers) bits n frame in
      test (bits_short (length settings) (length numbers) 1 0 0) (λ t. rw t (λ h. (refl, refl)))
      (λ t. rw t (λ h. (rw (ne_eqb a.said.refusal 0 h) refl, written_kept (bit_settings_of settings) (writer_of numbers) bits n frame h)));
  bits_read = λ settings numbers frame array.
      let a = reading (bit_settings_of settings) (reader_of numbers) frame in
      test (bits_short (length settings) (length numbers) 3 (length array) 6) (λ t. rw t (λ h. (refl, refl)))
      (λ t. rw t (λ h. (rw (ne_eqb a.refusal 0 h) refl, refl)));
  wrapped = λ limit protocol extension unit packet array.
      test (ltb (length array) 2) (λ t. rw t (λ h. (refl, refl))) (λ t. rw t (λ h. (refl, wrapped_kept limit protocol extension unit packet h)));
  space_written = λ header octets.
      test (ltb (length header) 7) (λ t. rw t (λ h. (refl, refl))) (λ t. rw t (λ h. (refl, space_kept (header_of header) octets h)));
  loaded = λ entries table.
      let a = loading empty (length entries / 2) (relaying.entries_of 32 entries) in
      test (or (not (eqb (length entries % 2) 0)) (ltb (length table) 65)) (λ t. rw t (λ h. (refl, refl)))
      (λ t. rw t (test (wide entries) (λ w. rw w (λ h. (refl, refl))) (λ w. rw w (λ h. (rw (ne_eqb a.refusal 0 h) refl, refl)))));
  routed = λ limit table packet destinations array.
      test (or (ltb (length table) 65) (ltb (length array) 3)) (λ t. rw t (λ h. (refl, refl)))
      (λ t. rw t (λ h. (refl, routed_kept limit (table_of table) packet destinations h)));
}

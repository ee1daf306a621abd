-- An answer of all zeros is a refusal: the outcomes are numbered from 1.
-- Assumes nothing.
use Rattle.std.proofs.Common.{◌≡◌, ℕ, List, true, take, arith}
use Rattle.std.proofs.lemmas.Bool.Decides.{nat_tests}
use Rattle.octets.specs.Basics.{pick}
use Rattle.packets.specs.Packet.{limit_in_range}
use Rattle.packets.specs.Header.{reading}
use Rattle.packets.specs.Header as header
use Rattle.frames.specs.declared.Settings.{Settings}
use Rattle.multiplexer.specs.Calls.{to_flush, answer}
use Rattle.multiplexer.specs.declared.Mux.{Mux}
use Rattle.extractor.specs.Records.{handed_over, step_look, step, step_call}
use Rattle.extractor.specs.Answers.{enter_answer, found_numbers, step_answer}
use Rattle.extractor.specs.declared.Extractor.{Extractor}
use Rattle.judge.specs.Calls.{closes_with, close_says, close_call}
use Rattle.judge.specs.declared.Judge.{Judge}
use Rattle.relay.specs.Route.{written, routing}
use Rattle.relay.specs.declared.Table.{Table}
use Rattle.exports.specs.Packet.{header_numbers, formed_numbers}
use Rattle.exports.specs.Mux.{flush_numbers}
use Rattle.exports.specs.Extract.{enter_numbers, step_numbers}
use Rattle.exports.specs.Judging.{close_numbers}
use Rattle.exports.specs.Relaying.{route_numbers}
use Rattle.exports.specs.Statements.{all_zero, told_apart, ZeroIsRefused}

header_told : (limit : ℕ) (os : List ℕ) → told_apart (reading limit os).refusal (header_numbers (reading limit os)) ≡ true
unfolding reading header.told header_numbers told_apart all_zero
header_told limit os = grind (arith, nat_tests)

formed_told : (limit : ℕ) (p : List ℕ) → told_apart (pick (limit_in_range limit) 0 1) (formed_numbers limit p) ≡ true
unfolding formed_numbers told_apart all_zero
formed_told limit p = grind (arith, nat_tests)

flush_told : (s : Settings) (m : Mux) (frame : List ℕ)
    → told_apart (answer s m to_flush frame).refusal (flush_numbers (answer s m to_flush frame)) ≡ true
unfolding answer flush_numbers told_apart all_zero
flush_told s m frame = grind (arith, nat_tests)

enter_told : (s : Settings) (x : Extractor) (store frame : List ℕ)
    → told_apart (enter_answer s x store frame).answer.refusal (enter_numbers (enter_answer s x store frame).answer) ≡ true
unfolding enter_answer enter_numbers told_apart all_zero
enter_told s x store frame = grind (arith, nat_tests)

step_told : (s : Settings) (x : Extractor) (store frame : List ℕ)
    → told_apart (step_answer s x store frame).answer.refusal (step_numbers (step_answer s x store frame).answer) ≡ true
unfolding step_answer step_call step step_look handed_over found_numbers step_numbers told_apart all_zero
step_told s x store frame = grind (arith, nat_tests)

close_told : (s : Settings) (j : Judge) (store : List ℕ)
    → told_apart (close_call s store j).refusal (close_numbers (close_call s store j)) ≡ true
unfolding close_call close_numbers close_says closes_with told_apart all_zero
close_told s j store = grind (arith, nat_tests)

route_told : (limit : ℕ) (t : Table) (p output : List ℕ)
    → told_apart (routing limit t p output).refusal (take 2 (route_numbers (routing limit t p output))) ≡ true
unfolding routing written route_numbers told_apart all_zero
route_told limit t p output = grind (arith, nat_tests)

pub zero_is_refused : ZeroIsRefused
zero_is_refused =
    record { header = header_told; formed = formed_told; flush = flush_told; enter = enter_told; step = step_told; close = close_told; route = route_told }

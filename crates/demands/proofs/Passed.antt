-- The table holds, by computing.
-- Assumes nothing.
use mathlib.Core.Path.{refl}
use Rattle.octets.specs.Basics.{number_from, number, octets, part, first, number_at}
use Rattle.words.specs.Fields.{field}
use Rattle.packets.specs.Packet.{limit_in_range, look, space, encapsulation, counted, sized, header_length, is_idle, key_of, size_of}
use Rattle.packets.specs.Header.{told, reading}
use Rattle.packets.proofs.Passes as packets
use Rattle.wrapping.proofs.Passes as wrapping
use Rattle.trailer.specs.Division.{bits, all_bits, moved, step, divided, remainder}
use Rattle.trailer.specs.Trailer.{extra, right, wrong}
use Rattle.frames.specs.Edition.{usage, cycle_width, count_in, used_as, signals}
use Rattle.frames.specs.Link.{primary, zone_head, header_rows, count_width, missing}
use Rattle.frames.specs.Frame.{frame_length, unused, frame_rows, zone_of}
use Rattle.frames.specs.declared.Edition.TheVariants.{Former, CycleUnused, CycleUsed}
use Rattle.frames.proofs.Passes as frames
use Rattle.multiplexer.proofs.Passes as multiplexer
use Rattle.extractor.specs.Extract.{take_in, step_of, reason_of, lost_since, reason_in, reason_by, agreed, agreed_look, walked, walk, walk_turns, walk_look}
use Rattle.extractor.proofs.Passed.{sample_passes, cycle_passes, spoilt_passes, trailed_passes}
use Rattle.judge.specs.Judge.{is_fault, faulty_entry, faulty, close, judged, verdict}
use Rattle.bitstream.proofs.Passes as bitstream
use Rattle.demands.specs.Table.{Pass1, JudgedPasses, Table}
use Rattle.demands.proofs.Numbered.{numbers}
use Rattle.carries.proofs.Weaker.{weaker}

pass_1 : Pass1
unfolding number_from number octets field part limit_in_range look space encapsulation counted sized header_length is_idle key_of size_of told reading
pass_1 = record { first_octets = refl; second_octets = refl; unused_octets = refl; used_octets = refl; space_5_8 = refl; encap_2_5 = refl; idle_7 = refl }

judged_passes : JudgedPasses
unfolding bits all_bits moved step divided remainder extra right wrong number_at number_from number octets field part first look space encapsulation counted sized header_length is_idle primary zone_head usage cycle_width count_in used_as signals header_rows count_width missing frame_length unused frame_rows zone_of take_in step_of reason_of lost_since reason_in reason_by agreed agreed_look walked walk walk_turns walk_look is_fault faulty_entry faulty close judged verdict
judged_passes Former = refl
judged_passes CycleUnused = refl
judged_passes CycleUsed = refl

pub table : Table
unfolding bits all_bits moved step divided remainder extra right wrong number_at number_from number octets field part first look space encapsulation counted sized header_length is_idle primary zone_head usage cycle_width count_in used_as signals header_rows count_width missing frame_length unused frame_rows zone_of take_in step_of reason_of lost_since reason_in reason_by agreed agreed_look walked walk walk_turns walk_look is_fault faulty_entry faulty close judged verdict
table = record {
  pass_1 = pass_1;
  passes_1_to_7 = sample_passes;
  judged_1_to_7 = judged_passes;
  passes_cycle = cycle_passes;
  judged_cycle = refl;
  passes_spoilt = spoilt_passes;
  passes_trailed = trailed_passes;
  judged_trailed = refl;
  judged_trailed_cycle = refl;
  pass_5_pointers = frames.pass_5;
  pass_8 = packets.pass_8;
  pass_9_packets = wrapping.pass_9;
  pass_9_flushes = multiplexer.pass_9;
  pass_13_pointers = frames.pass_13;
  pass_13 = bitstream.pass_13;
  numbers = numbers;
  needed = weaker;
}

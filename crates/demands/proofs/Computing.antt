-- What the rules compute with, crate by crate: to unfold one of these is to unfold all that its line names.
-- Assumes nothing.
use Rattle.octets.specs.Basics.{number_from, number, octets, part, cut, over, first, number_at, part_of, laid, laid_part}
use Rattle.words.specs.Fields.{field, join, placed}
use Rattle.packets.specs.Packet.{limit_in_range, sized, counted, space, header_length, encapsulation, look, damage_in, carried, states, well_formed, is_idle, key_of, size_of}
use Rattle.packets.specs.Header.{told, reading, version_of, answer}
use Rattle.wrapping.specs.Front.{first_octet, second_octet, front}
use Rattle.wrapping.specs.Idle.{idle_header, idle_packet, idle_packet_rows}
use Rattle.wrapping.specs.Wrap.{length_of_length_for, wrapped_total, wrapped, wrap_in_range, wrap_rows, wrapping, wraps}
use Rattle.relay.specs.Table.{same, twice, above, unfit, load_rows, table_of, loading, clear, is_table}
use Rattle.relay.specs.Table as tables
use Rattle.relay.specs.Route.{destinations, path, route_rows, routing, routes}
use Rattle.relay.specs.Route as relay
use Rattle.packets.specs.Unwrap.{extension_of, reserved_of, unwrap_rows, unwrapping, unwraps, unit_part}
use Rattle.space.specs.Space.{space_fields, space_word, space_in_range, space_read_rows, space_reading, space_reads, space_rows, space_writing}
use Rattle.trailer.specs.Division.{all_bits, moved, divided, remainder}
use Rattle.trailer.specs.Division as division
use Rattle.trailer.specs.Trailer.{trailer, right, with_trailer, extra, sent, wrong, ended}
use Rattle.frames.specs.Edition.{usage, cycle_width, count_in, used_as, signals, signalling}
use Rattle.frames.specs.Link.{link_in_range, primary, zone_head, header_rows, written_rows, head_word, headers, count_width, next_count, missing}
use Rattle.frames.specs.Frame.{in_range, frame_length, zone_of, unused, frame_rows, heading_rows, heading_of, heading, head, head_rows}
use Rattle.frames.specs.BitFrame.{bits_in_range, bit_frame_length, bit_zone_of, bit_unused, bit_frame_rows, bit_heading_rows, bit_heading, bit_head, bit_head_rows}
use Rattle.multiplexer.specs.Multiplex.{mux_reachable, put_rows, filled_frame, filled_mux, start_now, fits_now, put, flush_rows, flush, idle_rows, idle_frame}
use Rattle.multiplexer.specs.Calls as multiplexer
use Rattle.extractor.specs.Extract.{agreed_look, agreed, reason_by, reason_in, lost_since, reason_of, damage_of, step_of, walked, walk, walk_turns, walk_look, take_in}
use Rattle.extractor.specs.Records.{unfinished, holds_well, reachable, is_entered, stands_for, enter_rows, set_off, enter, step_rows, handed_over, step_look, step, step_call, shown}
use Rattle.extractor.specs.Answers.{entered_numbers, enter_answer, found_numbers, step_answer}
use Rattle.extractor.specs.Calls.{event_at, steps, spend_answer}
use Rattle.judge.specs.Judge.{is_fault, faulty_entry}
use Rattle.judge.specs.Calls.{counts_well, judge_reachable, frame_refusals, close_rows, stepped_through, try_frame, judge_frame, frame_call, judge_close, close_says, closes_with, close_call, calls}
use Rattle.judge.specs.Tapes.{tape_refusals, tape_call}
use Rattle.bitstream.specs.Bitstream.{octets_for, pointer_for, valid_bits, mixed, last_octet, zone_with, writer_reachable, write_rows, frame_with, written, reader_reachable, read_rows, untold, loss_flag, next_reader, leading_octets}
use Rattle.bitstream.specs.Bitstream as bits
use Rattle.bitstream.specs.Statements.{run_read}
use Rattle.runfile.specs.RunFile.{setup_of, plain, fits, stop, with_setup, with_frame, stands, nothing_after, ending, records, setup_octets, frame_octets, run_file}
use Rattle.runfile.specs.RunFile as runfile
use Rattle.runfile.specs.Steps.{next_record, body_length, taken, closed}
use Rattle.runfile.specs.Steps as run
use Rattle.exports.specs.Channel.{short, edition_of, zone_for, link_of, settings_of}
use Rattle.exports.specs.Packet.{kind_number, header_numbers, header_leaves, formed_numbers, formed_leaves, wrap_numbers, wrap_leaves, unwrap_numbers, unwrap_leaves, unit_numbers, unit_leaves}
use Rattle.exports.specs.Spaces.{space_numbers, read_space_leaves, header_of, write_space_leaves}
use Rattle.exports.specs.Mux.{mux_numbers, mux_of, begin_leaves, put_numbers, flush_numbers, mux_leaves}
use Rattle.exports.specs.Extract.{extractor_numbers, extractor_with, enter_numbers, enter_leaves, step_numbers, step_leaves, part_numbers, show_numbers, show_leaves}
use Rattle.exports.specs.Judging.{judge_numbers, judge_with, judging_leaves, close_numbers, close_leaves}
use Rattle.exports.specs.Relaying.{entry_of, entry_numbers, table_numbers, wide, load_leaves, route_numbers, route_leaves}
use Rattle.exports.specs.Relaying as relaying
use Rattle.exports.specs.Bits.{bits_short, bit_settings_of, writer_of, write_leaves, reader_numbers, reader_with, read_numbers, read_leaves}

unfoldable pub packets : Unit {0}
unfolding number_from number octets field join placed part cut over first number_at part_of laid laid_part limit_in_range sized counted space header_length encapsulation look damage_in carried states well_formed is_idle key_of size_of told reading version_of answer first_octet second_octet front idle_header idle_packet idle_packet_rows length_of_length_for wrapped_total wrapped wrap_in_range wrap_rows wrapping wraps extension_of reserved_of unwrap_rows unwrapping unwraps unit_part space_fields space_word space_in_range space_read_rows space_reading space_reads space_rows space_writing
packets = tt

unfoldable pub relays : Unit {0}
unfolding packets same tables.stands twice above unfit load_rows table_of loading clear is_table destinations path route_rows relay.written routing routes
relays = tt

unfoldable pub trailers : Unit {0}
unfolding packets all_bits moved division.bits division.step divided remainder trailer right with_trailer extra sent wrong ended
trailers = tt

unfoldable pub frames : Unit {0}
unfolding trailers usage cycle_width count_in used_as signals signalling link_in_range primary zone_head header_rows written_rows head_word headers count_width next_count missing in_range frame_length zone_of unused frame_rows heading_rows heading_of heading head head_rows bits_in_range bit_frame_length bit_zone_of bit_unused bit_frame_rows bit_heading_rows bit_heading bit_head bit_head_rows
frames = tt

unfoldable pub multiplexing : Unit {0}
unfolding frames mux_reachable put_rows filled_frame filled_mux start_now fits_now put flush_rows flush idle_rows idle_frame multiplexer.answers multiplexer.answers_alone multiplexer.answer
multiplexing = tt

unfoldable pub extracting : Unit {0}
unfolding frames agreed_look agreed reason_by reason_in lost_since reason_of damage_of step_of walked walk walk_turns walk_look take_in unfinished holds_well reachable is_entered stands_for enter_rows set_off enter step_rows handed_over step_look step step_call shown entered_numbers enter_answer found_numbers step_answer event_at steps spend_answer
extracting = tt

unfoldable pub judging : Unit {0}
unfolding extracting is_fault faulty_entry counts_well judge_reachable frame_refusals close_rows stepped_through try_frame judge_frame frame_call judge_close close_says closes_with close_call calls tape_refusals tape_call
judging = tt

unfoldable pub bitstreams : Unit {0}
unfolding frames octets_for pointer_for valid_bits mixed last_octet zone_with writer_reachable write_rows frame_with written reader_reachable read_rows untold loss_flag next_reader leading_octets bits.reading run_read
bitstreams = tt

unfoldable pub run_files : Unit {0}
unfolding frames setup_of plain fits stop with_setup with_frame stands nothing_after ending records setup_octets frame_octets run_file runfile.reading run.reachable next_record body_length taken closed
run_files = tt

unfoldable pub arrays : Unit {0}
unfolding multiplexing judging bitstreams relays relaying.entries_of entry_of relaying.table_of entry_numbers table_numbers wide load_leaves route_numbers route_leaves short edition_of zone_for link_of settings_of kind_number header_numbers header_leaves formed_numbers formed_leaves wrap_numbers wrap_leaves unwrap_numbers unwrap_leaves unit_numbers unit_leaves space_numbers read_space_leaves header_of write_space_leaves mux_numbers mux_of begin_leaves put_numbers flush_numbers mux_leaves extractor_numbers extractor_with enter_numbers enter_leaves step_numbers step_leaves part_numbers show_numbers show_leaves judge_numbers judge_with judging_leaves close_numbers close_leaves bits_short bit_settings_of writer_of write_leaves reader_numbers reader_with read_numbers read_leaves
arrays = tt

-- The runs that a weaker rule would carry, by computing.
-- Assumes nothing.
use mathlib.Core.Path.{refl}
use Rattle.octets.specs.Basics.{number_from, number, part, first, number_at}
use Rattle.words.specs.Fields.{field}
use Rattle.packets.specs.Packet.{look, space, encapsulation, counted, sized, header_length, is_idle}
use Rattle.trailer.specs.Division.{bits, all_bits, moved, step, divided, remainder}
use Rattle.trailer.specs.Trailer.{extra, right, wrong}
use Rattle.frames.specs.Edition.{usage, cycle_width, count_in, used_as, signals}
use Rattle.frames.specs.Link.{primary, zone_head, header_rows, count_width, next_count, missing}
use Rattle.frames.specs.Frame.{frame_length, unused, frame_rows, zone_of}
use Rattle.extractor.specs.Extract.{take_in, step_of, reason_of, lost_since, reason_in, reason_by, agreed, agreed_look, walked, walk, walk_turns, walk_look}
use Rattle.judge.specs.Judge.{is_fault, faulty_entry, faulty, close, judged, verdict}
use Rattle.carries.specs.Carries.{starts, first_start, LaidFrom, Bears, Rising}
use Rattle.carries.specs.Weaker.{Weaker}

pub weaker : Weaker
unfolding bits all_bits moved step divided remainder right number_at extra wrong number_from number field part first look space encapsulation counted sized header_length is_idle primary zone_head usage cycle_width count_in used_as signals header_rows count_width next_count missing frame_length unused frame_rows zone_of take_in step_of reason_of lost_since reason_in reason_by agreed agreed_look walked walk walk_turns walk_look is_fault faulty_entry faulty close judged verdict starts first_start LaidFrom Bears Rising
weaker =
    record {
      untrailed = record { bear = ((refl, refl, refl, refl, refl, refl, refl), tt); rises = tt; are_formed = (refl, tt); are_laid = (refl, refl, refl); verdict_is = refl };
      trailed = refl;
      still = record { bear = ((refl, refl, refl, refl, refl, refl, refl), ((refl, refl, refl, refl, refl, refl, refl), tt)); rises = refl; are_formed = (refl, (refl, tt)); are_laid = (refl, refl, (refl, refl, refl)); verdict_is = refl };
      rising = record { bear = ((refl, refl, refl, refl, refl, refl, refl), ((refl, refl, refl, refl, refl, refl, refl), tt)); rises = (refl, tt); are_formed = (refl, (refl, tt)); are_laid = (refl, refl, (refl, refl, refl)); verdict_is = refl };
      unformed = record { bear = ((refl, refl, refl, refl, refl, refl, refl), tt); rises = tt; are_formed = tt; are_laid = (refl, refl, refl); verdict_is = refl };
      unpointed = record { bear = ((refl, refl, refl, refl, refl, refl, refl), tt); rises = tt; are_formed = (refl, tt); are_laid = (refl, refl, refl); verdict_is = refl };
      idle_inside = record { bear = ((refl, refl, refl, refl, refl, refl, refl), ((refl, refl, refl, refl, refl, refl, refl), ((refl, refl, refl, refl, refl, refl, refl), tt))); rises = (refl, (refl, tt)); are_formed = (refl, tt); are_laid = (refl, refl, refl, tt, (refl, refl, refl)); verdict_is = refl };
      idle_after = record { bear = ((refl, refl, refl, refl, refl, refl, refl), ((refl, refl, refl, refl, refl, refl, refl), ((refl, refl, refl, refl, refl, refl, refl), tt))); rises = (refl, (refl, tt)); are_formed = (refl, tt); are_laid = (refl, refl, (refl, refl, (tt, refl))); verdict_is = refl };
    }

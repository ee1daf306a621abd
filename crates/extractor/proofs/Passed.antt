-- The sample passes hold, by computing.
-- Assumes nothing.
use mathlib.Core.Path.{refl}
use Rattle.octets.specs.Basics.{number_from, number, octets, part, first, number_at}
use Rattle.words.specs.Fields.{field}
use Rattle.packets.specs.Packet.{look, space, encapsulation, counted, sized, header_length, is_idle}
use Rattle.trailer.specs.Division.{bits, all_bits, moved, step, divided, remainder}
use Rattle.trailer.specs.Trailer.{extra, right, wrong}
use Rattle.frames.specs.Edition.{usage, cycle_width, count_in, used_as, signals}
use Rattle.frames.specs.Link.{primary, zone_head, header_rows, count_width, missing}
use Rattle.frames.specs.Frame.{frame_length, unused, frame_rows, zone_of}
use Rattle.extractor.specs.Extract.{told, take_in, step_of, reason_of, damage_of, lost_since, reason_in, reason_by, agreed, agreed_look, walked, walk, walk_turns, walk_look}
use Rattle.frames.specs.declared.Edition.TheVariants.{Former, CycleUnused, CycleUsed}
use Rattle.extractor.specs.Passes.{SamplePasses, CyclePasses, SpoiltPasses, TrailedPasses}

pub sample_passes : SamplePasses
unfolding extra wrong number_from number octets field part first look space encapsulation counted sized header_length is_idle primary zone_head usage cycle_width count_in used_as signals header_rows count_width missing frame_length unused frame_rows zone_of told take_in step_of reason_of damage_of lost_since reason_in reason_by agreed agreed_look walked walk walk_turns walk_look
sample_passes Former = refl
sample_passes CycleUnused = refl
sample_passes CycleUsed = refl

pub cycle_passes : CyclePasses
unfolding extra wrong number_from number octets field part first look space encapsulation counted sized header_length is_idle primary zone_head usage cycle_width count_in used_as signals header_rows count_width missing frame_length unused frame_rows zone_of told take_in step_of reason_of damage_of lost_since reason_in reason_by agreed agreed_look walked walk walk_turns walk_look
cycle_passes = refl

pub spoilt_passes : SpoiltPasses
unfolding extra wrong number_from number octets field part first look space encapsulation counted sized header_length is_idle primary zone_head usage cycle_width count_in used_as signals header_rows count_width missing frame_length unused frame_rows zone_of told take_in step_of reason_of damage_of lost_since reason_in reason_by agreed agreed_look walked walk walk_turns walk_look
spoilt_passes Former = refl
spoilt_passes CycleUnused = refl
spoilt_passes CycleUsed = refl

pub trailed_passes : TrailedPasses
unfolding bits all_bits moved step divided remainder right number_at extra wrong number_from number octets field part first look space encapsulation counted sized header_length is_idle primary zone_head usage cycle_width count_in used_as signals header_rows count_width missing frame_length unused frame_rows zone_of told take_in step_of reason_of damage_of lost_since reason_in reason_by agreed agreed_look walked walk walk_turns walk_look
trailed_passes = record { former = refl; unused = refl; used = refl }

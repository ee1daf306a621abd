-- The header parts of sample passes 5 and 13, by computing.
-- Assumes nothing.
use Rattle.std.proofs.Common.{refl}
use Rattle.octets.specs.Basics.{number, number_from, first}
use Rattle.words.specs.Fields.{field}
use Rattle.trailer.specs.Trailer.{extra, wrong}
use Rattle.frames.specs.Edition.{used_as, signals}
use Rattle.frames.specs.Link.{primary, zone_head, header_rows}
use Rattle.frames.specs.Frame.{frame_length, frame_rows, unused}
use Rattle.frames.specs.BitFrame.{bit_frame_length, bit_frame_rows, bit_unused}
use Rattle.frames.specs.Passes.{Pass5, Pass13}
use Rattle.frames.specs.declared.Edition.{Edition}
use Rattle.frames.specs.declared.Edition.TheVariants.{Former, CycleUnused, CycleUsed}

pub pass_5 : (e : Edition) → Pass5 e
unfolding first frame_rows unused used_as signals header_rows frame_length primary zone_head number number_from field extra wrong
pass_5 Former = record { nine_entered = refl; ten_refused = refl }
pass_5 CycleUnused = record { nine_entered = refl; ten_refused = refl }
pass_5 CycleUsed = record { nine_entered = refl; ten_refused = refl }

pub pass_13 : (e : Edition) → Pass13 e
unfolding first bit_frame_rows bit_frame_length bit_unused used_as signals header_rows primary zone_head number number_from field extra wrong
pass_13 Former = record { six_read = refl; seven_refused = refl; all_valid_read = refl }
pass_13 CycleUnused = record { six_read = refl; seven_refused = refl; all_valid_read = refl }
pass_13 CycleUsed = record { six_read = refl; seven_refused = refl; all_valid_read = refl }

-- Sample pass 13, by computing.
-- Assumes nothing.
use mathlib.Core.Path.{refl}
use Rattle.octets.specs.Basics.{octets}
use Rattle.words.specs.Fields.{join, placed}
use Rattle.trailer.specs.Trailer.{sent}
use Rattle.frames.specs.Edition.{usage, cycle_width, signalling}
use Rattle.frames.specs.Link.{head_word, headers}
use Rattle.frames.specs.BitFrame.{bit_head}
use Rattle.bitstream.specs.Bitstream.{octets_for, pointer_for, valid_bits, mixed, last_octet, zone_with, frame_with}
use Rattle.frames.specs.declared.Edition.{Edition}
use Rattle.frames.specs.declared.Edition.TheVariants.{Former, CycleUnused, CycleUsed}
use Rattle.bitstream.specs.Passes.{Pass13}

pub pass_13 : (e : Edition) → Pass13 e
unfolding sent frame_with bit_head headers usage cycle_width signalling head_word octets placed join zone_with last_octet mixed octets_for pointer_for valid_bits
pass_13 Former = record { seven = refl; eight = refl; seven_back = refl; eight_back = refl; seven_frame = refl; eight_frame = refl; fill_frame = refl }
pass_13 CycleUnused = record { seven = refl; eight = refl; seven_back = refl; eight_back = refl; seven_frame = refl; eight_frame = refl; fill_frame = refl }
pass_13 CycleUsed = record { seven = refl; eight = refl; seven_back = refl; eight_back = refl; seven_frame = refl; eight_frame = refl; fill_frame = refl }

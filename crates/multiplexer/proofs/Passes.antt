-- Sample pass 9, by computing.
-- Assumes nothing.
use mathlib.Core.Path.{refl}
use Rattle.octets.specs.Basics.{octets, part, over}
use Rattle.wrapping.specs.Idle.{idle_header, idle_packet}
use Rattle.trailer.specs.Trailer.{extra, ended}
use Rattle.frames.specs.Link.{headers, head_word}
use Rattle.frames.specs.Frame.{frame_length, head, zone_of}
use Rattle.multiplexer.specs.Multiplex.{filled_frame, start_now, fits_now, put, flush}
use Rattle.multiplexer.specs.Passes.{sample, flushed, Pass9}
use Rattle.frames.specs.declared.Edition.{Edition}
use Rattle.frames.specs.declared.Edition.TheVariants.{Former, CycleUnused, CycleUsed}

pub pass_9 : (e : Edition) → Pass9 e
unfolding sample flushed flush put extra ended fits_now start_now filled_frame idle_packet idle_header frame_length zone_of part over head headers head_word octets
pass_9 Former = record { one = refl; two = refl; octet = refl; more = refl }
pass_9 CycleUnused = record { one = refl; two = refl; octet = refl; more = refl }
pass_9 CycleUsed = record { one = refl; two = refl; octet = refl; more = refl }

-- Sample pass 9, by computing.
-- Assumes nothing.
use mathlib.Core.Path.{refl}
use Rattle.octets.specs.Basics.{octets}
use Rattle.wrapping.specs.Idle.{idle_packet, idle_header}
use Rattle.wrapping.specs.Passes.{Pass9}

pub pass_9 : Pass9
unfolding idle_packet idle_header octets
pass_9 = record { one = refl; two = refl; most_of_two = refl; least_of_four = refl }

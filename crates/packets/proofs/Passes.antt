-- Sample pass 8, by computing.
-- Assumes nothing.
use mathlib.Core.Path.{refl}
use Rattle.octets.specs.Basics.{number, number_from, part}
use Rattle.words.specs.Fields.{field}
use Rattle.packets.specs.Packet.{look, encapsulation, counted, sized, header_length}
use Rattle.packets.specs.Passes.{Pass8}

pub pass_8 : Pass8
unfolding look encapsulation counted sized header_length number number_from field part
pass_8 = record { below_its_header = refl; as_long_as_its_header = refl; one_octet_not_idle = refl }

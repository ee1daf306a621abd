-- Sample pass 8: what header octets say at M = 1,024.
use Rattle.std.specs.Prelude.{◌≡◌, [], ◌∷◌}
use Rattle.packets.specs.Packet.{damaged, look, WellFormed}

pub record Pass8 : Type 0 where
  pub below_its_header : look 1024 (0xE9 ∷ 0x01 ∷ []) ≡ damaged 3
  pub as_long_as_its_header : WellFormed 1024 (0xE9 ∷ 0x02 ∷ [])
  pub one_octet_not_idle : look 1024 (0xEC ∷ []) ≡ damaged 2

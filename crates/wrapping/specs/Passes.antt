-- Sample pass 9: the idle packets of 1, 2, 255 and 256 octets.
use Rattle.std.specs.Prelude.{◌≡◌, [], ◌∷◌, replicate}
use Rattle.wrapping.specs.Idle.{idle_packet}

pub record Pass9 : Type 0 where
  pub one : idle_packet 0x55 1 ≡ 0xE0 ∷ []
  pub two : idle_packet 0x55 2 ≡ 0xE1 ∷ 0x02 ∷ []
  pub most_of_two : idle_packet 0x55 255 ≡ 0xE1 ∷ 0xFF ∷ replicate 253 0x55
  pub least_of_four : idle_packet 0x55 256 ≡ 0xE2 ∷ 0x00 ∷ 0x01 ∷ 0x00 ∷ replicate 252 0x55

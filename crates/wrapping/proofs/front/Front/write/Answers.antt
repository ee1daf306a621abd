use Rattle.std.proofs.Common.{[], ◌∷◌, ◌-◌, ◌/◌, arith}
use Rattle.packets.proofs.Sizes.{header_most}
use Rattle.wrapping.proofs.Fits.{accepted, part_there}
use Rattle.wrapping.proofs.Fronts.{front_written}
use Rattle.wrapping.proofs.front.Front.write.Goals as goal

pub unwrap-requires : goal.unwrap-requires
unwrap-requires c =
    let a = c.args in
    let size = c.header_length-size.result in
    accepted c.lay.result c.lay.ensures.answer
    (part_there a.out.now a.at 0 (size - size / 2) (c.first_octet.result ∷ c.second_octet.result ∷ 0 ∷ 0 ∷ []) (omega arith) (omega (arith, c.header_length-size.ensures, header_most a.self.code)) (omega (arith, c.header_length-size.ensures, c.requires)))

pub returns : goal.returns
returns c =
    let a = c.args in
    rw (c.put.ensures.left, c.lay.ensures.left, c.header_length-size.ensures, c.first_octet.ensures, c.second_octet.ensures)
    (front_written a.self.protocol a.self.extension a.self.code a.self.total a.out.now a.at c.requires)

use Rattle.std.proofs.Common.{◌≡◌, refl, arith}
use Rattle.wrapping.specs.Front.{first_octet}
use Rattle.wrapping.proofs.Fronts.{first_octet_lt}
use Rattle.wrapping.proofs.front.Front.first_octet.Goals as goal

pub overflow_cast-result : goal.overflow_cast-result
unfolding first_octet
overflow_cast-result c =
    let a = c.args.self in
    let e : c.placed.result ≡ first_octet a.protocol a.code = rw (c.placed.ensures, c.placed-addressed.ensures, c.placed-versioned.ensures) refl in
    omega (arith, e, first_octet_lt a.protocol a.code)

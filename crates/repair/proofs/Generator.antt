-- The generator: the polynomial of the request has the roots a^6 to a^9 and no other factor.
-- Assumes nothing.
use mathlib.Core.Path.{refl}
use Rattle.repair.specs.Field.{times_root, power, product_from, product}
use Rattle.repair.specs.Statements.{times_linear, TheCode}
use Rattle.repair.proofs.Roots.{written_roots}
use Rattle.repair.proofs.Nearest.{far_apart}

pub the_code : TheCode
unfolding times_linear product product_from power times_root
the_code = record { generator = refl; roots = written_roots; far_apart = far_apart }

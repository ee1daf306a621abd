-- The sum of its digits, each times the generator.
use Rattle.std.proofs.Common.{◌∙◌}
use Rattle.repair.specs.Values.{generator_times}
use Rattle.repair.proofs.Table.{four_digits}
use Rattle.repair.proofs.Division.{multiple_digits}
use Rattle.repair.proofs.multiple.Goals as goal

pub returns : goal.returns
returns c = c.digits_sum.ensures generator_times (λ i r h p. p) ∙ four_digits c.args.e generator_times ∙ multiple_digits c.args.e c.requires

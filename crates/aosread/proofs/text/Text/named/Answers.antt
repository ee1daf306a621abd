-- `text::Text::named` meets its contract: a number has twenty digits at most.
use Rattle.std.proofs.Common.{length, ap, arith, length-append}
use Rattle.aosread.specs.Lines.{decimal}
use Rattle.aosread.proofs.Texts.{decimal_most}
use Rattle.aosread.proofs.text.Text.named.Goals as goal

pub returns-clause-upper_bound : goal.returns-clause-upper_bound
returns-clause-upper_bound g c =
    omega (
      arith,
      ap length c.decimal.ensures,
      length-append c.put.new.self (decimal c.args.n),
      ap length c.put.ensures,
      length-append c.args.self.now c.args.name.now,
      decimal_most c.args.n c.ranges.n.fits,
    )

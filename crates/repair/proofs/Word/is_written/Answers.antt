-- A word is its six symbols and its check symbols.
use Rattle.std.proofs.Common.{◌/◌, ◌%◌, arith}
use Rattle.octets.proofs.Choices.{eqb_iff}
use Rattle.repair.specs.Code.{written}
use Rattle.repair.proofs.Roots.{checks_lt}
use Rattle.repair.proofs.Word.is_written.Goals as goal

pub returns : goal.returns
unfolding written
returns c =
    let word = c.args.self.number in
    eqb_iff c.checks.result (word % 65536) word (written (word / 65536))
    (λ e. omega (arith, c.checks.ensures)) (λ e. omega (arith, c.checks.ensures, checks_lt (word / 65536)))

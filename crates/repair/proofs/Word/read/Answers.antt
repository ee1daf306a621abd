-- A word that is rightly written is read as itself.
use Rattle.std.proofs.Common.{sym, ◌∙◌}
use Rattle.repair.proofs.Reading.{read_itself}
use Rattle.repair.proofs.Word.read.Goals as goal

pub returns-then-is_written : goal.returns-then-is_written
returns-then-is_written c = read_itself c.args.self.number c.args.self.short (sym c.is_written.ensures ∙ c.if-is_written.true)

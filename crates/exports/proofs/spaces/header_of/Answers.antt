-- Cutting each number to its field changes nothing of what is written.
use Rattle.std.proofs.Common.{rules}
use Rattle.exports.specs.Spaces.{header_of}
use Rattle.exports.proofs.Headers.{written_alike}
use Rattle.exports.proofs.spaces.header_of.Goals as goal

pub returns : goal.returns
unfolding header_of
returns c = (search rules, written_alike (header_of c.args.numbers.now) _ (search rules))

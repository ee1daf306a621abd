-- `heading` meets its contract: the fields fit their types.
use Rattle.std.proofs.Common.{arith, rules}
use Rattle.octets.proofs.ByNumber.{refused_not_0}
use Rattle.words.proofs.Fields.{field_lt}
use Rattle.frames.specs.Shape.{heading_of}
use Rattle.frames.proofs.channel.heading.Goals as goal

pub returns-in_err-check_headers : goal.returns-in_err-check_headers
unfolding heading_of
returns-in_err-check_headers g c =
    let some = refused_not_0 c.in_err-check_headers.field-0.0 in search rules

pub overflow_cast-result : goal.overflow_cast-result
overflow_cast-result g c = record { fits = omega (arith, c.field.ensures, field_lt c.args.head 7 1) }

pub returns : goal.returns
unfolding heading_of
returns g c = let width = g.met.C.Channel.has_width c.args.s in search rules

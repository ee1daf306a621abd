-- `read_head` meets its contract: the settings' row, those before the headers, and then the headers' own.
use Rattle.std.proofs.Common.{sym, arith, rules}
use Rattle.octets.specs.Basics.{first}
use Rattle.octets.proofs.ByNumber.{refused_not_0}
use Rattle.frames.specs.Shape.{heading_of}
use Rattle.frames.proofs.Headings.{outer_refused, heading_reads}
use Rattle.frames.proofs.channel.read_head.Goals as goal

pub returns-then-not-in_range : goal.returns-then-not-in_range
unfolding heading_of first
returns-then-not-in_range g c = search rules

pub returns-in_err-check_frame : goal.returns-in_err-check_frame
unfolding first
returns-in_err-check_frame g c =
    let refusal = c.in_err-check_frame.field-0.0 in
    let before = outer_refused (g.C.Channel.shape c.args.s) c.args.frame.now c.in_err-check_frame.ensures (refused_not_0 refusal) in
    search rules

pub returns : goal.returns
unfolding first
returns g c =
    let reads =
    heading_reads (g.C.Channel.shape c.args.s) c.args.frame.now (sym c.in_ok-check_frame.ensures)
    (c.number-head.ensures.whole (omega arith)) (c.number-zone.ensures.whole (omega arith)) in
    search rules

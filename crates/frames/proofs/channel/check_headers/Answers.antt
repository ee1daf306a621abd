-- `check_headers` meets its contract: each row is a test of the code, and the pointer's bits are the channel's.
use Rattle.std.proofs.Common.{rules}
use Rattle.octets.specs.Basics.{first}
use Rattle.frames.specs.Link.{header_rows}
use Rattle.frames.proofs.Headings.{spare_fits}
use Rattle.frames.proofs.channel.check_headers.Goals as goal

pub returns-then-field-ne1 : goal.returns-then-field-ne1
unfolding first header_rows
returns-then-field-ne1 g c = search rules

pub returns-then-not-channel : goal.returns-then-not-channel
unfolding first header_rows
returns-then-not-channel g c = search rules

pub returns-then-not-clear : goal.returns-then-not-clear
unfolding first header_rows
returns-then-not-clear g c = let width = g.met.C.Channel.has_width c.args.s in search (rules, spare_fits)

pub returns-then-unused : goal.returns-then-unused
unfolding first header_rows
returns-then-unused g c = let width = g.met.C.Channel.has_width c.args.s in search (rules, spare_fits)

pub returns : goal.returns
unfolding first header_rows
returns g c = let width = g.met.C.Channel.has_width c.args.s in search (rules, spare_fits)

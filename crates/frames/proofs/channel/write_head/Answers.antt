-- `write_head` meets its contract: each row is a test of the code, and where none holds there is room for both headers.
use Rattle.std.proofs.Common.{rules}
use Rattle.octets.specs.Basics.{first}
use Rattle.frames.specs.Link.{written_rows}
use Rattle.frames.proofs.Heads.{headers_laid}
use Rattle.frames.proofs.channel.write_head.Goals as goal

pub returns-then-not-in_range-count-clause-value : goal.returns-then-not-in_range-count-clause-value
unfolding first written_rows
returns-then-not-in_range-count-clause-value g c = let width = g.met.C.Channel.has_width c.args.s in search rules

pub returns-then-buf-lt-ZONE_AT-clause-value : goal.returns-then-buf-lt-ZONE_AT-clause-value
unfolding first written_rows
returns-then-buf-lt-ZONE_AT-clause-value g c = let width = g.met.C.Channel.has_width c.args.s in search rules

pub returns-clause-value : goal.returns-clause-value
unfolding first written_rows
returns-clause-value g c = let width = g.met.C.Channel.has_width c.args.s in search rules

pub returns-clause-buf_after : goal.returns-clause-buf_after
returns-clause-buf_after g c =
    let width = g.met.C.Channel.has_width c.args.s in
    let a = c.args in
    let laid = headers_laid _ a.count 0 _ _ a.buf.now _ _ c.if-buf-lt-ZONE_AT.false c.head_word.ensures c.put.ensures.left c.put-2.ensures.left in
    search rules

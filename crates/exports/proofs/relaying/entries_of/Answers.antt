-- Each entry is the one that its two numbers state.
use Rattle.std.proofs.Common.{◌+◌, ◌*◌, get_or, rules}
use Rattle.exports.specs.Relaying.{entry_of, entries_of}
use Rattle.exports.proofs.Relays.{entries_long, entries_at, from_fn_is}
use Rattle.exports.proofs.relaying.entries_of.Goals as goal

pub returns : goal.returns
returns c =
    let ns = c.args.numbers.now in
    from_fn_is c.from_fn.ensures.items (λ i. entry_of (get_or ns (2 * i) 0) (get_or ns (2 * i + 1) 0))
    (λ i y q h. search rules) (entries_of 32 ns) (entries_long 32 ns) (entries_at 32 ns)

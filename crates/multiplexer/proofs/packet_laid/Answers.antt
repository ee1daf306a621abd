-- Octets of a packet that were laid and counted are what the rules put.
use Rattle.multiplexer.proofs.Laying.{put_laid}
use Rattle.multiplexer.proofs.packet_laid.Goals as goal

pub returns : goal.returns
returns c =
    let a = c.args in
    put_laid a.s a.m a.n a.len _ _ c.requires.n_bound c.start_now-start.ensures c.taken_now-taken.ensures c.count_in.ensures

-- `follow` meets its contract: each record of a run that goes on leaves fewer to take.
use Rattle.aosread.proofs.Records.{next_less}
use Rattle.aosread.proofs.follow.Goals as goal

pub loop-progress-smaller-in-Running-progress : goal.loop-progress-smaller-in-Running-progress
loop-progress-smaller-in-Running-progress g c = let x = c.in-Ok.ensures in next_less _ _ x.kind _ x.reads c.in-Running.is

pub loop-progress-smaller : goal.loop-progress-smaller
loop-progress-smaller g c = let x = c.in-Ok.ensures in next_less _ _ x.kind _ x.reads c.in-Running.is

use Rattle.std.proofs.lemmas.Nat.{shr-shr}
use Rattle.words.specs.Fields.{placed}
use Rattle.words.proofs.placed.Goals as goal

pub returns : goal.returns
unfolding placed
returns c =
    let a = c.args in
    cc (shr-shr a.word a.at.below a.at.width)

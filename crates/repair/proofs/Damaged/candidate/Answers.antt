-- What was tried is a candidate, and so a word.
use Rattle.repair.proofs.Mending.{candidate_of}
use Rattle.repair.proofs.Damaged.candidate.Goals as goal

pub invariant_of-result : goal.invariant_of-result
invariant_of-result c =
    let word = c.args.self.word in
    record {
      short =
          (candidate_of word.number word.short c.requires.0 c.requires.1 c.args.self.at_six c.args.self.at_seven c.amount.ensures c.amount-2.ensures).short;
    }

pub returns : goal.returns
returns c =
    let word = c.args.self.word in
    candidate_of word.number word.short c.requires.0 c.requires.1 c.args.self.at_six c.args.self.at_seven c.amount.ensures c.amount-2.ensures

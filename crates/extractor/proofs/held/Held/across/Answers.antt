-- A header that is damaged or whole says it all, and else fewer octets than it has are held.
use Rattle.extractor.proofs.Stated.{known_across, held_short}
use Rattle.extractor.proofs.held.Held.across.Goals as goal

pub length_in_both-requires-clause-held_most : goal.length_in_both-requires-clause-held_most
length_in_both-requires-clause-held_most c =
    let held = c.args.self.now in
    held_short held.limit held.octets.now held.stated held.limit_least c.in-More.is held.stated_value

pub returns-in_default : goal.returns-in_default
returns-in_default c =
    let held = c.args.self.now in
    known_across held.limit held.octets.now c.args.more.now held.stated held.limit_least c.in_default.not-More held.stated_value

use Rattle.std.proofs.Common.{◌≡◌, sym, ap, ◌∙◌, ℕ, List, ◌/◌, arith}
use Rattle.octets.specs.Basics.{number, number_from, number_at}
use Rattle.octets.proofs.Numbers.{number_within}
use Rattle.packets.specs.Packet.{header_length}
use Rattle.packets.proofs.Sizes.{long_header}
use Rattle.packets.proofs.stated.Goals as goal

-- the second half, for a header of a known length
half : (os : List ℕ) {size size' : ℕ} → size ≡ size' → number_at (size / 2) (size / 2) os ≡ number_at (size' / 2) (size' / 2) os
half os e = ap (λ (size : ℕ). number_at (size / 2) (size / 2) os) e

pub returns-in-0 : goal.returns-in-0
unfolding header_length number number_from
returns-in-0 c =
    let os = c.args.start.now in
    sym (half os (ap header_length c.in-0.is) ∙ number_within 0 0 os (omega arith))

pub returns-in-1 : goal.returns-in-1
unfolding header_length
returns-in-1 c = c.number.ensures.whole (omega arith) ∙ sym (half c.args.start.now (ap header_length c.in-1.is))

pub returns-in-2 : goal.returns-in-2
unfolding header_length
returns-in-2 c = c.number-in-2.ensures.whole (omega arith) ∙ sym (half c.args.start.now (ap header_length c.in-2.is))

pub returns-in_default : goal.returns-in_default
returns-in_default c =
    let long : 8 ≡ header_length c.args.code = long_header c.args.code (λ e. omega arith) (λ e. omega arith) (λ e. omega arith) in
    c.number-in_default.ensures.whole (omega arith) ∙ half c.args.start.now long

use Rattle.std.proofs.Common.{sym, ap, ◌∙◌, ℕ, eqb}
use Rattle.octets.proofs.Fronts.{all_known}
use Rattle.trailer.proofs.Right.{right_whole}
use Rattle.trailer.proofs.is_right.Goals as goal

pub returns : goal.returns
returns c = ap (λ (r : ℕ). eqb r 0) c.remainder.ensures ∙ sym (right_whole c.args.frame.now (all_known c.args.frame.now c.type_inv.frame))

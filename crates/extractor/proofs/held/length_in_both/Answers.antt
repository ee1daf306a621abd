-- The first eight octets of both say all that a header can.
use Rattle.std.proofs.Common.{ℕ, take, replicate, refl, ap, ◌∙◌, arith}
use Rattle.packets.specs.Packet.{look}
use Rattle.packets.proofs.Grown.{look_front}
use Rattle.extractor.proofs.Starts.{started}
use Rattle.extractor.proofs.held.length_in_both.Goals as goal

pub returns : goal.returns
returns c =
    let a = c.args in
    let least = c.requires.limit_least in
    c.read_length.ensures
    ∙ ap (look a.limit)
    (started (replicate 8 0) a.held.now a.more.now _ _ c.least.result _ refl c.requires.held_most c.copy_from_slice.ensures.after c.least.ensures
    (c.copy_from_slice-2.ensures.after ∙ ap (λ (i : ℕ). take i a.more.now) (omega arith)))
    ∙ look_front a.limit _ least

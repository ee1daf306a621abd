-- What is laid lies within the zone, and the zone within the frame.
use Rattle.std.proofs.Common.{arith}
use Rattle.frames.specs.BitFrame.{bit_frame_length}
use Rattle.bitstream.specs.Bitstream.{octets_for}
use Rattle.bitstream.proofs.Laid.{filled, laid_whole, laid_mixed}
use Rattle.bitstream.proofs.lay_bits.Goals as goal

pub overflow_sub-s : goal.overflow_sub-s
unfolding octets_for
overflow_sub-s c = omega (arith, c.requires.inside)

pub bounds-bits-whole : goal.bounds-bits-whole
unfolding octets_for
bounds-bits-whole c = omega (arith, c.requires.lent, c.if-n-ne0.true)

pub bounds-frame-at : goal.bounds-frame-at
unfolding octets_for bit_frame_length
bounds-frame-at c =
    omega (arith, c.requires.inside, c.requires.room, c.if-n-ne0.true, c.fill.auto.buf, c.lay.auto.buf)

pub returns-then-n-ne0 : goal.returns-then-n-ne0
returns-then-n-ne0 c =
    let a = c.args in
    let so_far = filled a.s a.n a.bits.now a.frame.now c.requires _ _ c.lay.ensures.left c.fill.ensures.left in
    laid_mixed a.s a.n a.bits.now a.frame.now c.requires _ _ (omega (arith, c.if-n-ne0.true)) so_far c.mixed.ensures

pub returns-else-n-ne0 : goal.returns-else-n-ne0
returns-else-n-ne0 c =
    let a = c.args in
    let so_far = filled a.s a.n a.bits.now a.frame.now c.requires _ _ c.lay.ensures.left c.fill.ensures.left in
    laid_whole a.s a.n a.bits.now a.frame.now c.requires _ c.if-n-ne0.false so_far

-- The fill octets are laid over the whole zone.
use Rattle.std.proofs.Common.{◌+◌, ◌≤◌, length, replicate, arith}
use borrow.Author.Tests.{le-leb}
use Rattle.std.proofs.lemmas.List.{length-replicate}
use Rattle.wrapping.proofs.Fits.{accepted}
use Rattle.frames.specs.Frame.{frame_length, idle_zone}
use Rattle.frames.proofs.Framed.{pointer_beyond}
use Rattle.multiplexer.proofs.Rows.{idle_passed}
use Rattle.multiplexer.proofs.Laying.{accepted_fills, laid_in, zone_laid}
use Rattle.multiplexer.proofs.lay_idle_zone.Goals as goal

pub overflow_add-m : goal.overflow_add-m
overflow_add-m c = let w = idle_passed _ _ _ c.requires in omega arith

pub count_in-requires : goal.count_in-requires
count_in-requires c =
    let w = idle_passed _ _ _ c.requires in
    accepted_fills idle_zone _ _ w.0 c.fill.auto.buf (omega arith) (pointer_beyond _ idle_zone (omega arith)) (omega arith)

pub returns : goal.returns
returns c =
    let a = c.args in
    let w = idle_passed _ _ _ c.requires in
    let long = length-replicate a.s.zone a.s.fill in
    zone_laid a.s a.m a.frame.now (laid_in a.frame.now w.0 (replicate a.s.zone a.s.fill) (omega arith) c.fill.ensures.left)
    c.count_in.ensures

pub unwrap-requires : goal.unwrap-requires
unfolding frame_length
unwrap-requires c =
    let a = c.args in
    let w = idle_passed _ _ _ c.requires in
    let fits : 8 + a.m.filled + a.s.zone ≤ length a.frame.now = omega (arith, w.0.lent.enough) in
    accepted c.fill.result c.fill.ensures.answer (le-leb _ _ fits)

-- As many octets are laid as fit, within the zone and within the packet.
use Rattle.std.proofs.Common.{ℕ, ◌+◌, ◌-◌, ◌≤◌, length, refl, arith}
use Rattle.wrapping.proofs.Fits.{accepted, part_there}
use Rattle.frames.specs.Frame.{frame_length}
use Rattle.multiplexer.specs.Multiplex.{fits_now}
use Rattle.multiplexer.proofs.Records.{start_fits, start_used}
use Rattle.multiplexer.proofs.Rows.{put_passed}
use Rattle.multiplexer.proofs.Laying.{accepted_fills, part_laid_in}
use Rattle.multiplexer.proofs.lay_packet.Goals as goal

pub overflow_sub-s : goal.overflow_sub-s
overflow_sub-s c = let w = put_passed _ _ _ _ c.requires in omega arith

pub overflow_sub-p : goal.overflow_sub-p
overflow_sub-p c = (put_passed _ _ _ _ c.requires).1

pub overflow_add-m : goal.overflow_add-m
overflow_add-m c = let w = put_passed _ _ _ _ c.requires in omega arith

pub packet_laid-requires-clause-fills : goal.packet_laid-requires-clause-fills
packet_laid-requires-clause-fills c =
    let a = c.args in
    let w = put_passed _ _ _ _ c.requires in
    accepted_fills _ _ _ w.0 c.lay.auto.buf (start_fits a.s w.0.range a.m w.0.passes) (start_used a.s a.m w.0.passes) (omega arith)

pub packet_laid-requires-clause-n_bound : goal.packet_laid-requires-clause-n_bound
packet_laid-requires-clause-n_bound c = let w = put_passed _ _ _ _ c.requires in omega arith

pub returns : goal.returns
unfolding fits_now
returns c =
    let a = c.args in
    let w = put_passed _ _ _ _ c.requires in
    let inside : a.m.filled + c.least-n.result ≤ a.s.zone = omega arith in
    let part : a.m.taken + c.least-n.result ≤ length a.p.now = omega arith in
    c.packet_laid.ensures a.p.now a.frame.now refl c.least-n.ensures
    (part_laid_in a.frame.now w.0 a.p.now a.m.taken _ part inside c.lay.ensures.left)

pub unwrap-requires : goal.unwrap-requires
unfolding frame_length
unwrap-requires c =
    let a = c.args in
    let w = put_passed _ _ _ _ c.requires in
    let from = a.m.taken in
    let to : ℕ = from + c.least-n.result in
    let at : ℕ = 8 + a.m.filled in
    let fits : at + (to - from) ≤ length a.frame.now = omega (arith, w.0.lent.enough) in
    accepted c.lay.result c.lay.ensures.answer
    (part_there a.frame.now at from to a.p.now (omega arith) (omega arith) fits)

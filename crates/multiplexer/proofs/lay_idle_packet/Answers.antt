-- The idle packet is laid to the zone's end, and so is taken whole.
use Rattle.std.proofs.Common.{true, ◌≡◌, ℕ, List, ◌+◌, ◌-◌, length, refl, eq-eqb, ◌∙◌, arith}
use Rattle.frames.specs.Frame.{frame_length}
use Rattle.wrapping.specs.Idle.{idle_packet}
use Rattle.wrapping.proofs.Fits.{accepted}
use Rattle.wrapping.proofs.Idles.{idle-length, idle_admits}
use Rattle.multiplexer.specs.Multiplex.{fits_now}
use Rattle.multiplexer.proofs.Records.{start_fits, start_used}
use Rattle.multiplexer.proofs.Rows.{flush_passed}
use Rattle.multiplexer.proofs.Laying.{accepted_fills, put_laid, part_all}
use Rattle.multiplexer.proofs.lay_idle_packet.Goals as goal

pub overflow_sub-left : goal.overflow_sub-left
overflow_sub-left c = let w = flush_passed _ _ _ c.requires in omega arith

pub overflow_add-m : goal.overflow_add-m
overflow_add-m c = let w = flush_passed _ _ _ c.requires in omega arith

pub count_in-requires : goal.count_in-requires
count_in-requires c =
    let a = c.args in
    let w = flush_passed _ _ _ c.requires in
    rw c.start_now-start.ensures
    (accepted_fills _ _ _ w.0 c.write_idle.auto.out (start_fits a.s w.0.range a.m w.0.passes) (start_used a.s a.m w.0.passes) (omega arith))

pub returns : goal.returns
unfolding fits_now frame_length
returns c =
    let a = c.args in
    let w = flush_passed _ _ _ c.requires in
    let left : ℕ = a.s.zone - a.m.filled in
    let packet : List ℕ = idle_packet a.s.fill left in
    let long : length packet ≡ left = idle-length a.s.fill left (omega arith) in
    let whole : a.m.taken + left ≡ left = omega arith in
    let full : a.m.filled + left ≡ a.s.zone = omega arith in
    let answer = c.write_idle.ensures.value ∙ idle_admits a.frame.now (8 + a.m.filled) left (omega arith) (omega arith) (omega (arith, w.0.lent.enough)) in
    let laid = put_laid a.s a.m left left _ 0 (omega arith) c.start_now-start.ensures (rw (eq-eqb _ _ whole) refl) c.count_in.ensures in
    rw (eq-eqb _ _ full, eq-eqb _ _ whole) at (laid packet a.frame.now long (omega arith)
    (rw (part_all packet a.m.taken _ w.1 long) (rw (eq-eqb _ _ answer) at c.write_idle.ensures.out_after)))

pub unwrap-requires : goal.unwrap-requires
unfolding frame_length
unwrap-requires c =
    let a = c.args in
    let w = flush_passed _ _ _ c.requires in
    let left : ℕ = a.s.zone - a.m.filled in
    accepted c.write_idle.result {room = true}
    (c.write_idle.ensures.value ∙ idle_admits a.frame.now (8 + a.m.filled) left (omega arith) (omega arith) (omega (arith, w.0.lent.enough))) refl

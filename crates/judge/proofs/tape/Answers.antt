-- A refusal by its row, or the tape played.
use Rattle.std.proofs.Common.{◌≡◌, refl, sym, ap, ℕ, ◌+◌, arith, rules}
use Rattle.octets.proofs.ByNumber.{refused_not_0}
use Rattle.trailer.proofs.Setting.{extra_small}
use Rattle.frames.specs.Frame.{frame_length}
use Rattle.frames.proofs.Settled.{settled}
use Rattle.judge.specs.Calls.{left_by, judge_calls}
use Rattle.judge.specs.Tapes.{tape_rows, tape_refusals, tape_call, frames_in}
use Rattle.judge.proofs.Accepting.{checked_close}
use Rattle.judge.proofs.Advances.{tally_most}
use Rattle.judge.proofs.Answered.{refuses, not_refused}
use Rattle.judge.proofs.Rows.{refused_close}
use Rattle.judge.proofs.Tapes.{some_octets, past_refused, rest_refused, none_refused}
use Rattle.judge.proofs.tape.Goals as goal

pub returns-in_err-check : goal.returns-in_err-check
unfolding tape_call tape_refusals
returns-in_err-check c =
    let a = c.args in
    let some = refused_not_0 c.in_err-check.field-0.0 in
    let told =
    refuses (tape_refusals a.s a.store.now a.j a.tape.now) a.store.now a.j (left_by (judge_calls a.s a.store.now a.j (frames_in a.s a.tape.now)))
    (refused_close a.s a.store.now a.j c.in_err-check.ensures (tape_rows a.s a.j a.tape.now) some) some in
    search rules

pub overflow_add-size : goal.overflow_add-size
overflow_add-size c =
    let a = c.args in
    let found = checked_close a.s a.store.now a.j (sym c.in_ok-check.ensures) in
    record { fits = omega (arith, c.around.ensures, extra_small a.s.link.trailed, (settled a.s found.ranged).zone_most) }

pub nonzero_div-tape : goal.nonzero_div-tape
unfolding frame_length
nonzero_div-tape c =
    let a = c.args in
    let size : a.s.zone + c.around.result ≡ frame_length a.s = ap (λ (n : ℕ). a.s.zone + n) c.around.ensures in
    omega (arith, size, some_octets a.s)

pub nonzero_rem-tape : goal.nonzero_rem-tape
unfolding frame_length
nonzero_rem-tape c =
    let a = c.args in
    let size : a.s.zone + c.around.result ≡ frame_length a.s = ap (λ (n : ℕ). a.s.zone + n) c.around.ensures in
    omega (arith, size, some_octets a.s)

pub is_past_last-requires : goal.is_past_last-requires
is_past_last-requires c =
    let a = c.args in
    tally_most a.s a.store.now a.j (checked_close a.s a.store.now a.j (sym c.in_ok-check.ensures)).reached

pub returns-then-is_past_last : goal.returns-then-is_past_last
unfolding tape_call frame_length
returns-then-is_past_last c =
    let a = c.args in
    let size : a.s.zone + c.around.result ≡ frame_length a.s = ap (λ (n : ℕ). a.s.zone + n) c.around.ensures in
    rw (← past_refused a.s a.store.now a.j a.tape.now c.in_ok-check.ensures refl size c.is_past_last.ensures c.if-is_past_last.true) refl

pub returns-then-tape-size-ne0 : goal.returns-then-tape-size-ne0
unfolding tape_call frame_length
returns-then-tape-size-ne0 c =
    let a = c.args in
    let size : a.s.zone + c.around.result ≡ frame_length a.s = ap (λ (n : ℕ). a.s.zone + n) c.around.ensures in
    rw (← rest_refused a.s a.store.now a.j a.tape.now c.in_ok-check.ensures refl size c.is_past_last.ensures c.if-is_past_last.false c.if-tape-size-ne0.true) refl

pub played-requires-clause-tape_value : goal.played-requires-clause-tape_value
unfolding frame_length
played-requires-clause-tape_value c =
    let a = c.args in
    let size : a.s.zone + c.around.result ≡ frame_length a.s = ap (λ (n : ℕ). a.s.zone + n) c.around.ensures in
    none_refused a.s a.store.now a.j a.tape.now c.in_ok-check.ensures refl size c.is_past_last.ensures c.if-is_past_last.false c.if-tape-size-ne0.false

pub played-requires-clause-size_value : goal.played-requires-clause-size_value
unfolding frame_length
played-requires-clause-size_value c = ap (λ (n : ℕ). c.args.s.zone + n) c.around.ensures

pub returns : goal.returns
unfolding tape_call frame_length
returns c =
    let a = c.args in
    let size : a.s.zone + c.around.result ≡ frame_length a.s = ap (λ (n : ℕ). a.s.zone + n) c.around.ensures in
    let none = none_refused a.s a.store.now a.j a.tape.now c.in_ok-check.ensures refl size c.is_past_last.ensures c.if-is_past_last.false c.if-tape-size-ne0.false in
    not_refused (tape_refusals a.s a.store.now a.j a.tape.now) a.store.now a.j none c.played.ensures

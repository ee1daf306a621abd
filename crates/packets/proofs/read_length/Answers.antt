use Rattle.std.proofs.Common.{sym, ap, ◌∙◌, ℕ, ◌+◌, get_or, arith}
use Rattle.octets.proofs.Fronts.{all_known}
use Rattle.octets.proofs.Numbers.{number_within, run_lt}
use Rattle.packets.specs.Packet.{sized, encapsulation, protocol_of}
use Rattle.packets.specs.Header.{seen}
use Rattle.packets.proofs.Looks.{look_none, look_space, look_encapsulation, look_other, counted_short, counted_long}
use Rattle.packets.proofs.read_length.Goals as goal

pub returns-then-len-eq0 : goal.returns-then-len-eq0
unfolding seen
returns-then-len-eq0 c = sym (look_none c.args.limit c.args.start.now c.if-len-eq0.true)

pub returns-then-len-lt-SPACE_HEADER : goal.returns-then-len-lt-SPACE_HEADER
unfolding seen
returns-then-len-lt-SPACE_HEADER c =
    let a = c.args in
    sym (look_space a.limit a.start.now c.if-len-eq0.false (sym c.version-version.ensures ∙ c.if-version-eq-SPACE_VERSION.true)
    ∙ counted_short a.limit _ _ _ c.if-len-lt-SPACE_HEADER.true)

pub overflow_add-total : goal.overflow_add-total
overflow_add-total c =
    let os = c.args.start.now in
    omega (arith, c.number.ensures.whole (omega arith), number_within 2 4 os (omega arith), run_lt os 4 2 (all_known os c.type_inv.start) (omega arith))

pub returns-then-version-eq-SPACE_VERSION : goal.returns-then-version-eq-SPACE_VERSION
returns-then-version-eq-SPACE_VERSION c =
    let a = c.args in
    c.sized.ensures
    ∙ ap (λ (n : ℕ). sized a.limit 6 (n + 7)) (c.number.ensures.whole (omega arith))
    ∙ sym (look_space a.limit a.start.now c.if-len-eq0.false (sym c.version-version.ensures ∙ c.if-version-eq-SPACE_VERSION.true)
    ∙ counted_long a.limit _ _ _ c.if-len-lt-SPACE_HEADER.false)

pub returns-then-version-eq-ENCAPSULATION_VERSION : goal.returns-then-version-eq-ENCAPSULATION_VERSION
returns-then-version-eq-ENCAPSULATION_VERSION c =
    let a = c.args in
    c.encapsulation.ensures
    ∙ ap (λ (p : ℕ). encapsulation a.limit p c.length_of_length.result a.start.now) c.protocol.ensures
    ∙ ap (λ (n : ℕ). encapsulation a.limit (protocol_of (get_or a.start.now 0 0)) n a.start.now) c.length_of_length.ensures
    ∙ sym (look_encapsulation a.limit a.start.now c.if-len-eq0.false (sym c.version-version.ensures ∙ c.if-version-eq-ENCAPSULATION_VERSION.true))

pub returns : goal.returns
unfolding seen
returns c =
    let a = c.args in
    let v = c.version-version.ensures in
    sym (look_other a.limit a.start.now c.if-len-eq0.false (λ e. c.if-version-eq-SPACE_VERSION.false (v ∙ e)) (λ e. c.if-version-eq-ENCAPSULATION_VERSION.false (v ∙ e)))

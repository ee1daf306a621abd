use Rattle.std.proofs.Common.{sym, ap, ◌∙◌, ℕ, ◌≤◌, ◌<◌, length}
use Rattle.packets.specs.Packet.{header_length, sized, encapsulation}
use Rattle.packets.specs.Header.{seen}
use Rattle.packets.proofs.Looks.{none_read, none_damaged, half_read, counted_short, counted_long}
use Rattle.packets.proofs.encapsulation.Goals as goal

pub returns-then-protocol-eq-IDLE_PROTOCOL : goal.returns-then-protocol-eq-IDLE_PROTOCOL
unfolding seen
returns-then-protocol-eq-IDLE_PROTOCOL c =
    let a = c.args in
    sym (ap (λ (n : ℕ). encapsulation a.limit a.protocol n a.start.now) c.if-code-eq0.true ∙ none_read a.limit a.start.now a.protocol c.if-protocol-eq-IDLE_PROTOCOL.true)

pub returns-then-code-eq0 : goal.returns-then-code-eq0
unfolding seen
returns-then-code-eq0 c =
    let a = c.args in
    sym (ap (λ (n : ℕ). encapsulation a.limit a.protocol n a.start.now) c.if-code-eq0.true ∙ none_damaged a.limit a.start.now a.protocol c.if-protocol-eq-IDLE_PROTOCOL.false)

pub returns-then-start-size : goal.returns-then-start-size
unfolding seen
returns-then-start-size c =
    let a = c.args in
    let few : length a.start.now < header_length a.code = rw (← c.header_length-size.ensures) c.if-start-size.true in
    sym (half_read a.limit a.start.now a.protocol a.code c.if-code-eq0.false ∙ counted_short a.limit _ _ _ few)

pub returns : goal.returns
returns c =
    let a = c.args in
    let all : header_length a.code ≤ length a.start.now = rw (← c.header_length-size.ensures) c.if-start-size.false in
    c.sized.ensures
    ∙ ap (λ (n : ℕ). sized a.limit n c.stated.result) c.header_length-size.ensures
    ∙ ap (sized a.limit (header_length a.code)) c.stated.ensures
    ∙ sym (half_read a.limit a.start.now a.protocol a.code c.if-code-eq0.false ∙ counted_long a.limit _ _ _ all)

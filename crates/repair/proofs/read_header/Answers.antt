-- The word is read, and its six symbols are put back.
use Rattle.std.proofs.Common.{ℕ, ◌+◌, ◌*◌, ◌/◌, ap, ◌∙◌}
use Rattle.words.specs.Fields.{placed}
use Rattle.repair.specs.Code.{answer_of, reading}
use Rattle.repair.specs.Header.{covered, with_six, header_of, header_reading}
use Rattle.repair.proofs.read_header.Goals as goal

pub returns-in_err-six : goal.returns-in_err-six
unfolding header_reading header_of covered
returns-in_err-six c =
    ap answer_of c.from_residual.ensures
    ∙ ap (header_of c.args.head) (c.in_err-six.ensures ∙ ap (λ (six : ℕ). reading (six * 65536 + c.args.after)) c.six_of.ensures.six)

pub returns : goal.returns
unfolding header_reading header_of covered with_six
returns c =
    ap (λ (x : ℕ). record { refusal = 0; read = x })
    (c.placed.ensures ∙ ap (λ (x : ℕ). placed x 32 16 (c.in_ok-six.field-0 / 65536 / 256)) c.placed-last.ensures)
    ∙ ap (header_of c.args.head) (c.in_ok-six.ensures ∙ ap (λ (six : ℕ). reading (six * 65536 + c.args.after)) c.six_of.ensures.six)

-- The count that the header says, 0 where it is refused.
use Rattle.std.proofs.Common.{◌≡◌, sym, ap, ◌∙◌, ℕ}
use Rattle.frames.specs.Frame.{heading, heading_rows, frame_rows}
use Rattle.frames.specs.Link.{count_width, missing}
use Rattle.frames.specs.Shape.{Heading, tells}
use Rattle.extractor.specs.declared.Extractor.TheVariants.{InStep}
use Rattle.judge.proofs.trial.ready_for.Goals.{in-Ok, in-Err}
use Rattle.judge.proofs.trial.ready_for.Goals as goal

pub returns : goal.returns
unfolding heading heading_rows frame_rows
returns c =
    let a = c.args in
    let counted : c.match-read_head.count ≡ (heading a.s a.frame.now).count =
    elim c.match-read_head.branch [
      | in-Ok w ↦ w.count-is ∙ ap (λ (h : Heading). h.count) (sym (ap tells w.in-Ok.is) ∙ c.read_head.ensures)
      | in-Err w ↦ w.count-is ∙ ap (λ (h : Heading). h.count) (sym (ap tells w.in-Err.is) ∙ c.read_head.ensures)
    ] in
    ap (λ (n : ℕ). InStep n 0) (c.missing.ensures ∙ ap (missing (count_width a.s.link) 0) counted)

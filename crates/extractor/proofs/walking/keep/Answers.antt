-- The octets are written behind those held.
use Rattle.std.proofs.Common.{◌+◌, List, ℕ, length, ap, ◌∙◌, arith}
use lib.Seq.{take-length}
use Rattle.octets.specs.Basics.{over}
use Rattle.extractor.specs.Records.{steps_to}
use Rattle.extractor.specs.declared.Extractor.TheVariants.{InStep}
use Rattle.extractor.specs.Found.{Spent}
use Rattle.extractor.proofs.Parts.{written_over}
use Rattle.extractor.proofs.walking.keep.Goals as goal

pub returns : goal.returns
returns c =
    let a = c.args in
    ap (λ (st : List ℕ). steps_to Spent (InStep a.last (a.held + length a.left.now)) st)
    (written_over a.store.now a.held (length a.left.now) a.left.now _ c.lay.ensures.left (omega arith) (omega arith)
    ∙ ap (over a.store.now a.held) (take-length a.left.now))

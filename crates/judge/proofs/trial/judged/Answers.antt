-- A frame by the record: the first is tried from the extractor's record before it.
use Rattle.std.proofs.Common.{refl, ap, ◌∙◌, arith}
use Rattle.frames.specs.Frame.{heading}
use Rattle.extractor.specs.Records.{stands_for}
use Rattle.extractor.specs.declared.Extractor.{Extractor}
use Rattle.judge.specs.Calls.{try_frame, judge_frame}
use Rattle.judge.proofs.Accepting.{sound_tries, open_tries, accepts_as}
use Rattle.judge.proofs.Opening.{opened_tried}
use Rattle.judge.proofs.trial.judged.Goals as goal

pub tried-requires : goal.tried-requires
tried-requires c =
    let a = c.args in
    rw c.ready_for-x.ensures (open_tries (heading a.s a.frame.now).count (accepts_as c.requires c.in-Open.is))

pub tried-requires-in-Sound : goal.tried-requires-in-Sound
tried-requires-in-Sound c = sound_tries (accepts_as c.requires c.in-Sound.is)

pub overflow_add-result : goal.overflow_add-result
overflow_add-result c = record { fits = omega (arith, (accepts_as c.requires c.in-Faulty.is).few) }

pub returns-in-Open : goal.returns-in-Open
unfolding judge_frame
returns-in-Open c =
    let a = c.args in
    rw c.in-Open.is
    (c.tried.ensures
    ∙ ap (λ (x : Extractor). try_frame a.s 0 (stands_for a.store.now x) a.store.now a.frame.now) c.ready_for-x.ensures
    ∙ opened_tried a.s a.store.now a.frame.now (accepts_as c.requires c.in-Open.is).found.ranged)

pub returns-in-Sound : goal.returns-in-Sound
unfolding judge_frame
returns-in-Sound c = rw c.in-Sound.is c.tried-in-Sound.ensures

pub returns-in-Faulty : goal.returns-in-Faulty
unfolding judge_frame
returns-in-Faulty c = rw c.in-Faulty.is refl

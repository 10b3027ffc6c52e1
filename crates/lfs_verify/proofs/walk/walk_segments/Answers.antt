use Rattle.lfs_model.specs.Damage.{stage}
use Rattle.lfs_verify.proofs.CodeSteps.{look_pass, look_fails}
use Rattle.lfs_verify.proofs.walk.walk_segments.Goals as goal

pub returns-then-not-stage_labels-clause-damaged : goal.returns-then-not-stage_labels-clause-damaged
unfolding stage
returns-then-not-stage_labels-clause-damaged c = λ code is v labels live passed.
    look_fails passed c.if-not-stage_labels.true (c.stage_labels.ensures v labels passed.walked passed.bounded) is

pub returns-then-not-stage_counts-clause-damaged : goal.returns-then-not-stage_counts-clause-damaged
unfolding stage
returns-then-not-stage_counts-clause-damaged c = λ code is v labels live passed.
    let eight = look_pass passed c.if-not-stage_labels.false
    (c.stage_labels.ensures v labels passed.walked passed.bounded) in
    look_fails eight c.if-not-stage_counts.true (c.stage_counts.ensures v passed.walked passed.bounded live) is

pub returns-clause-holds : goal.returns-clause-holds
unfolding stage
returns-clause-holds c = λ v labels live passed.
    let eight = look_pass passed c.if-not-stage_labels.false
    (c.stage_labels.ensures v labels passed.walked passed.bounded) in
    look_pass eight c.if-not-stage_counts.false (c.stage_counts.ensures v passed.walked passed.bounded live)

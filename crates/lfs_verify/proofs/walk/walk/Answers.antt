use Rattle.std.proofs.lemmas.Result.{IfOk-weaker}
use Rattle.lfs_model.specs.Reach.{view}
use Rattle.lfs_verify.proofs.WholeSteps.{walk_end}
use Rattle.lfs_verify.proofs.walk.walk.Goals as goal

pub returns-clause-holds : goal.returns-clause-holds
returns-clause-holds g c = IfOk-weaker c.walk_all.result _ _
    (λ r holds d reads. walk_end (view d _) r.0 (holds d reads)) c.walk_all.ensures.holds

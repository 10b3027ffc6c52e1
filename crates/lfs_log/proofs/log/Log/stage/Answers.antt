use Rattle.std.proofs.Common.{refl}
use Rattle.lfs_log.proofs.Volumes.{is_staged, is_refused, is_stage_fault}
use Rattle.lfs_log.proofs.log.Log.stage.Goals as goal

pub returns-in-Ok-clause-done : goal.returns-in-Ok-clause-done
returns-in-Ok-clause-done g c = rw (← c.self.view_is) (is_staged refl refl c.in-Ok.ensures.done.2 c.version_after-self-inside.ensures
    c.is_raised_after-self-inside.ensures refl c.in-Ok.ensures.done.1)

pub returns-in-Err-clause-refused : goal.returns-in-Err-clause-refused
returns-in-Err-clause-refused g c =
    let go = c.in-Err.ensures.refused in rw (← c.self.view_is) (is_refused refl refl go.2 refl refl refl go.1)

pub returns-in-Err-clause-failed : goal.returns-in-Err-clause-failed
returns-in-Err-clause-failed g c is = rw (← c.self.view_is) (is_stage_fault _ c.args.changes.now (c.in-Err.ensures.ends.failed is))

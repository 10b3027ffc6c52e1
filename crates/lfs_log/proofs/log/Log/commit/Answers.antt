use Rattle.std.proofs.Common.{refl}
use Rattle.lfs_log.proofs.log.Log.commit.Goals as goal
use Rattle.lfs_log.proofs.Volumes.{saves, halts}

pub returns-in-Ok-clause-done : goal.returns-in-Ok-clause-done
returns-in-Ok-clause-done g c = rw (← c.self.view_is) (saves (c.self.invariant.0 c.if-self.false).running.few c.in-Ok.ensures.done
    refl refl refl refl c.if-self.false)

pub returns-in-Err-clause-halted : goal.returns-in-Err-clause-halted
returns-in-Err-clause-halted g c is ne =
    rw (← c.self.view_is) (halts c.in-Err.ensures.stopped refl refl refl)

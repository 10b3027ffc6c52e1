use Rattle.lfs_log.proofs.KeptRuns.{kept_still}
use Rattle.lfs_log.proofs.log.Log.header.Goals as goal
use Rattle.lfs_log.proofs.Volumes.{answers_log, looked_fails}

pub returns-in_default-clause-keeps : goal.returns-in_default-clause-keeps
returns-in_default-clause-keeps g c = rw (← c.self.view_is) (looked_fails c.in_default.ensures.looks)

pub returns-clause-answer : goal.returns-clause-answer
returns-clause-answer g c = rw (← c.self.view_is) (answers_log _ c.in-Ok.ensures.answer)

pub invariant_of-self : goal.invariant_of-self
invariant_of-self g c = kept_still _ c.read_header.ensures.looks.looks c.self.invariant

pub invariant_of-self-2 : goal.invariant_of-self-2
invariant_of-self-2 g c = kept_still _ c.read_header.ensures.looks.looks c.self.invariant

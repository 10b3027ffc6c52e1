use Rattle.lfs_log.proofs.log.Log.count_blocks.Goals as goal
use Rattle.lfs_log.proofs.Volumes.{answers_log}
use Rattle.lfs_log.proofs.Volumes.{answers_log, looked_fails}

pub returns-in_default-clause-keeps : goal.returns-in_default-clause-keeps
returns-in_default-clause-keeps g c = rw (← c.self.view_is) (looked_fails c.in_default.ensures.looks)

pub returns-clause-answer : goal.returns-clause-answer
returns-clause-answer g c = rw (← c.self.view_is) (answers_log _ c.in-Ok.ensures.answer)

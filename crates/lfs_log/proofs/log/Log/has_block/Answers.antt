use Rattle.lfs_log.proofs.log.Log.has_block.Goals as goal
use Rattle.lfs_log.proofs.StoredBlocks.{tells_block}
use Rattle.lfs_log.proofs.Volumes.{looked_fails}

pub returns-in_default-clause-keeps : goal.returns-in_default-clause-keeps
returns-in_default-clause-keeps g c = rw (← c.self.view_is) (looked_fails c.in_default.ensures.finds.looks)

pub returns-clause-answer : goal.returns-clause-answer
returns-clause-answer g c = rw (← c.self.view_is) (tells_block _ c.in-Ok.ensures.finds.answer)

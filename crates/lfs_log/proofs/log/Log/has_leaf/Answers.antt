use Rattle.lfs_log.proofs.KeptRuns.{kept_still}
use Rattle.lfs_log.proofs.log.Log.has_leaf.Goals as goal
use Rattle.lfs_log.proofs.StoredBlocks.{tells_leaf}
use Rattle.lfs_log.proofs.Volumes.{looked_fails}

pub returns-in_default-clause-keeps : goal.returns-in_default-clause-keeps
returns-in_default-clause-keeps g c = rw (← c.self.view_is) (looked_fails c.in_default.ensures.looks)

pub returns-clause-answer : goal.returns-clause-answer
returns-clause-answer g c = rw (← c.self.view_is) (tells_leaf _ c.in-Ok.ensures.answer)

pub invariant_of-self : goal.invariant_of-self
invariant_of-self g c = kept_still _ c.locate_leaf.ensures.looks.looks c.self.invariant

pub invariant_of-self-2 : goal.invariant_of-self-2
invariant_of-self-2 g c = kept_still _ c.locate_leaf.ensures.looks.looks c.self.invariant

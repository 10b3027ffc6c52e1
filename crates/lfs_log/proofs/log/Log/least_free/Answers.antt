use Rattle.lfs_memory.proofs.Going.{some_then, none_then}
use Rattle.lfs_log.proofs.Volumes.{is_vacant, has_all}
use Rattle.lfs_log.proofs.log.Log.least_free.Goals as goal

pub returns-clause-some : goal.returns-clause-some
returns-clause-some g c = some_then c.least_free.result _ _ (λ n free. rw (← c.self.view_is) (is_vacant free)) c.least_free.ensures.some

pub returns-clause-none : goal.returns-clause-none
returns-clause-none g c = none_then c.least_free.result _ _ (λ all. rw (← c.self.view_is) (has_all all)) c.least_free.ensures.none

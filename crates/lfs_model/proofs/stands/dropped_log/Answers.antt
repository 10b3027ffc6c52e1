use Rattle.lfs_model.proofs.Committed.{dropped_log}
use Rattle.lfs_model.proofs.stands.dropped_log.Goals as goal

pub returns : goal.returns
returns c = dropped_log

use Rattle.lfs_model.proofs.Committed.{dropped_again}
use Rattle.lfs_model.proofs.stands.dropped_again.Goals as goal

pub returns : goal.returns
returns c = dropped_again

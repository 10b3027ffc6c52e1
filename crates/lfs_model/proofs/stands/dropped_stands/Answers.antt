use Rattle.lfs_model.proofs.Committed.{dropped_stands}
use Rattle.lfs_model.proofs.stands.dropped_stands.Goals as goal

pub returns : goal.returns
returns c = dropped_stands

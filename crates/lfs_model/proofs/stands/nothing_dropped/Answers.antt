use Rattle.lfs_model.proofs.Committed.{nothing_dropped}
use Rattle.lfs_model.proofs.stands.nothing_dropped.Goals as goal

pub returns : goal.returns
returns c = nothing_dropped

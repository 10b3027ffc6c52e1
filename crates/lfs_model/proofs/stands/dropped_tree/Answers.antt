use Rattle.lfs_model.proofs.Committed.{dropped_tree}
use Rattle.lfs_model.proofs.stands.dropped_tree.Goals as goal

pub returns : goal.returns
returns c = dropped_tree

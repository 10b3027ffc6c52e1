use Rattle.lfs_store.proofs.TreeTotals.{totals_of_tree}
use Rattle.lfs_store.proofs.totals.totals_of_tree.Goals as goal

pub returns : goal.returns
returns c = totals_of_tree

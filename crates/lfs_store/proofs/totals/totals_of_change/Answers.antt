use Rattle.lfs_store.proofs.Summing.{totals_of_change}
use Rattle.lfs_store.proofs.totals.totals_of_change.Goals as goal

pub returns : goal.returns
returns c = totals_of_change

use Rattle.lfs_record.proofs.Holding.{holds_all_else}
use Rattle.lfs_record.proofs.laws.holds_all_else.Goals as goal

pub returns : goal.returns
returns c = holds_all_else

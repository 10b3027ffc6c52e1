use Rattle.lfs_record.proofs.Order.{numbers_order}
use Rattle.lfs_record.proofs.laws.names_are_ordered.Goals as goal

pub returns : goal.returns
returns c = numbers_order

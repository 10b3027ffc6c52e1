use Rattle.lfs_model.proofs.Newest.{last_stands_alone}
use Rattle.lfs_model.proofs.stands.last_stands_alone.Goals as goal

pub returns : goal.returns
returns c = last_stands_alone

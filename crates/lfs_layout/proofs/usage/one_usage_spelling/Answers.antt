use Rattle.lfs_model.proofs.UsagePlaces.{one_usage}
use Rattle.lfs_layout.proofs.usage.one_usage_spelling.Goals as goal

pub returns : goal.returns
returns c n m a b p q e = one_usage n m a b p q e

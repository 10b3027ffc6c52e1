use Rattle.lfs_model.proofs.Committed.{mounted_log}
use Rattle.lfs_model.proofs.stands.mounted_log.Goals as goal

pub returns : goal.returns
returns c = mounted_log

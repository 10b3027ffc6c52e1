use Rattle.lfs_model.proofs.FileChanges
use Rattle.lfs_model.proofs.log.forgetting.Goals as goal

pub returns : goal.returns
returns c = FileChanges.forgetting

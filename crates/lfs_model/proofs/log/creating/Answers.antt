use Rattle.lfs_model.proofs.FileChanges
use Rattle.lfs_model.proofs.log.creating.Goals as goal

pub returns : goal.returns
returns c = FileChanges.creating

use Rattle.lfs_model.proofs.CheckpointPlaces.{one_checkpoint}
use Rattle.lfs_layout.proofs.checkpoint.one_checkpoint_spelling.Goals as goal

pub returns : goal.returns
returns c a b p q e = one_checkpoint a b p q e

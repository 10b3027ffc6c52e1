use Rattle.lfs_model.proofs.ObjectMaps.{block_whole}
use Rattle.lfs_model.proofs.objects.block_whole.Goals as goal

pub returns : goal.returns
returns c = block_whole

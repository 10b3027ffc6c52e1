use Rattle.lfs_model.proofs.ObjectBytes.{overlays_join}
use Rattle.lfs_model.proofs.objects.overlays_join.Goals as goal

pub returns : goal.returns
returns c = overlays_join

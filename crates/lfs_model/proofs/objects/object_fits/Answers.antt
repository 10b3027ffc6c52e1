use Rattle.lfs_model.proofs.ObjectMaps.{object_fits}
use Rattle.lfs_model.proofs.objects.object_fits.Goals as goal

pub returns : goal.returns
returns c = object_fits

use Rattle.lfs_model.proofs.ObjectBytes.{same_objects}
use Rattle.lfs_model.proofs.objects.same_objects.Goals as goal

pub returns : goal.returns
returns c = same_objects

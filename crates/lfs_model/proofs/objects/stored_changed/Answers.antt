use Rattle.lfs_model.proofs.ObjectNeeds.{stored_changed}
use Rattle.lfs_model.proofs.objects.stored_changed.Goals as goal

pub returns : goal.returns
returns c = stored_changed

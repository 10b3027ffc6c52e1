use Rattle.lfs_model.proofs.ObjectMaps.{laid_headers}
use Rattle.lfs_model.proofs.ObjectNeeds.{laid_long}
use Rattle.lfs_model.proofs.objects.laid_objects.Goals as goal

pub returns-clause-long : goal.returns-clause-long
returns-clause-long c = laid_long

pub returns-clause-headers : goal.returns-clause-headers
returns-clause-headers c = laid_headers

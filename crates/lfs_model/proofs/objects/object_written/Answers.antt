use Rattle.lfs_model.proofs.ObjectBytes.{object_written, write_ends}
use Rattle.lfs_model.proofs.objects.object_written.Goals as goal

pub returns-clause-is : goal.returns-clause-is
returns-clause-is c = object_written

pub returns-clause-ends : goal.returns-clause-ends
returns-clause-ends c = write_ends

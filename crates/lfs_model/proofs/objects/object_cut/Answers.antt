use Rattle.lfs_model.proofs.ObjectBytes.{object_cut, lengthened, cut_ends}
use Rattle.lfs_model.proofs.objects.object_cut.Goals as goal

pub returns-clause-is : goal.returns-clause-is
returns-clause-is c = object_cut

pub returns-clause-longer : goal.returns-clause-longer
returns-clause-longer c = lengthened

pub returns-clause-ends : goal.returns-clause-ends
returns-clause-ends c = cut_ends

use Rattle.lfs_model.proofs.ObjectTrees.{file_written, file_cut}
use Rattle.lfs_model.proofs.objects.files_changed.Goals as goal

pub returns-clause-written : goal.returns-clause-written
returns-clause-written c = file_written

pub returns-clause-cut : goal.returns-clause-cut
returns-clause-cut c = file_cut

use Rattle.lfs_model.proofs.ObjectBytes.{get_or-zeros}
use Rattle.lfs_device_tests.proofs.verify.no_labels.Goals as goal

pub returns : goal.returns
returns c i = get_or-zeros 130 i

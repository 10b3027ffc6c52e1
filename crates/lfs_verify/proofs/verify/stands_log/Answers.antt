use Rattle.lfs_verify.proofs.VerifySteps.{stands_where_enough}
use Rattle.lfs_verify.proofs.verify.stands_log.Goals as goal

pub returns : goal.returns
returns c = stands_where_enough

use Rattle.lfs_verify.proofs.VerifySteps.{stands_for_none}
use Rattle.lfs_verify.proofs.verify.stands_for_none.Goals as goal

pub returns : goal.returns
returns c = stands_for_none

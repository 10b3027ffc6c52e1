use Rattle.lfs_model.proofs.Pendings.{reads_leave}
use Rattle.lfs_model.proofs.laws.reads_leave_the_state.Goals as goal

pub returns : goal.returns
returns c N s s' call a is st = reads_leave N s s' call a is st

use Rattle.lfs_model.proofs.Pendings.{last_is_pending}
use Rattle.lfs_model.proofs.laws.the_last_state_is_pending.Goals as goal

pub returns : goal.returns
returns c N p calls answers points run = last_is_pending N p calls answers points run

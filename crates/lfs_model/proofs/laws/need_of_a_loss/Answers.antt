use Rattle.lfs_model.proofs.Needs.{need-without}
use Rattle.lfs_model.proofs.laws.need_of_a_loss.Goals as goal

pub returns : goal.returns
returns c N s sound n = need-without s.tree n sound.in_order

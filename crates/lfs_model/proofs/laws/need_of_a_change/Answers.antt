use Rattle.lfs_model.proofs.Needs.{need-with_node}
use Rattle.lfs_model.proofs.laws.need_of_a_change.Goals as goal

pub returns : goal.returns
returns c N s sound n x = need-with_node s.tree n x sound.in_order

use Rattle.lfs_model.proofs.Cuts.{cut_cost}
use Rattle.lfs_model.proofs.laws.need_of_a_cut.Goals as goal

pub returns : goal.returns
returns c b n = cut_cost b n

use Rattle.std.proofs.Common.{ap}
use Rattle.lfs_model.proofs.Makes.{dir_at}
use Rattle.lfs_model.specs.Tree.{node, is_dir}
use Rattle.lfs_model.proofs.Renames.{same_need, less_need}
use Rattle.lfs_model.proofs.laws.need_of_a_rename.Goals as goal

pub returns-clause-free : goal.returns-clause-free
returns-clause-free c N s sound d n form m a b is found absent =
    same_need N s sound d n a b (dir_at (node s.tree d) (ap is_dir is)) found absent

pub returns-clause-over : goal.returns-clause-over
returns-clause-over c N s sound d n old form m a b is found there =
    less_need N s sound d n a b (dir_at (node s.tree d) (ap is_dir is)) found old

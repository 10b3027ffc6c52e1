use Rattle.lfs_model.proofs.SameParent.{rename_has_space}
use Rattle.lfs_model.proofs.laws.renames_in_one_directory_have_space.Goals as goal

pub returns : goal.returns
returns c N s s' sound a b d par_a par_b st = rename_has_space N s s' sound a b d par_a par_b st

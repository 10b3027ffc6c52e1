use Rattle.lfs_model.proofs.Unlinks.{name_less}
use Rattle.lfs_model.proofs.laws.need_of_a_name_less.Goals as goal

pub returns : goal.returns
returns c N s sound d form m is name = name_less s.tree d form m name sound.in_order is

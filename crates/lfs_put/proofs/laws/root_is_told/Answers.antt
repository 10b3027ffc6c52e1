use Rattle.lfs_put.proofs.Asking.{count_is, limit_is, need_is, size_is}
use Rattle.lfs_put.proofs.laws.root_is_told.Goals as goal

pub returns : goal.returns
returns c N s s' form m root = (
  λ data_blocks meta_blocks n l step. (need_is N s s' step, limit_is N s s' step),
  λ stat step. size_is N s s' form m root step,
  λ entries step. count_is N s s' form m root step,
)

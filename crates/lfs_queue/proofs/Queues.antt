-- Orders at the end of a queue.
use Rattle.std.proofs.Common.{◌≡◌, List, [], ◌∷◌, ◌++◌, refl}
use Rattle.lfs_model.specs.declared.Order.{Order}
use Rattle.lfs_queue.specs.Orders.{onto}

pub told_at_end : (queue : List Order) (order : Order) (told : List Order) → onto (queue ++ order ∷ []) told ≡ order ∷ onto queue told
told_at_end [] order told = refl
told_at_end (first ∷ queue) order told = told_at_end queue order (first ∷ told)

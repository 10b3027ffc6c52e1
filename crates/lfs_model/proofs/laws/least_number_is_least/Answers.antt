use Rattle.lfs_model.proofs.Leasts.{least_free, least_taken}
use Rattle.lfs_model.proofs.Makes.{starts_one}
use Rattle.lfs_model.proofs.laws.least_number_is_least.Goals as goal

pub returns : goal.returns
returns c N s sound =
    let low = starts_one s.tree sound.numbers in
    let free = least_free 1 s.tree sound.in_order low in
    (free.0, free.1, λ k above below. least_taken 1 s.tree sound.in_order low k above below)

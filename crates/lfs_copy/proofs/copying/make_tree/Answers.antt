use Rattle.std.proofs.lemmas.Result.{err_from_is_err_and}
use Rattle.std.proofs.Common.{rules}
use Rattle.lfs_copy.proofs.Trees.{tree_made, tree_not_saved, tree_not_widened, tree_stops}
use Rattle.lfs_copy.proofs.copying.make_tree.Goals as goal

pub returns-in-Err : goal.returns-in-Err
returns-in-Err g c = tree_not_widened _ c.in-Err.fault c.in-Err.ensures

pub returns-in_err-bytes : goal.returns-in_err-bytes
returns-in_err-bytes g c =
    let p = err_from_is_err_and c.from_residual.result c.from_residual.ensures.1 in rw (p.1, p.2)
    (tree_stops _ c.in-Ok.ensures c.in_err-bytes.ensures)

pub returns-in-Ok-sync : goal.returns-in-Ok-sync
returns-in-Ok-sync g c = tree_made _ c.in-Ok.ensures c.in_ok-bytes.ensures c.in-Ok-sync.ensures (search rules)

pub returns-in-Err-sync : goal.returns-in-Err-sync
returns-in-Err-sync g c = tree_not_saved c.in-Err-sync.fault c.in-Ok.ensures c.in_ok-bytes.ensures c.in-Err-sync.ensures

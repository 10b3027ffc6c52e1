use Rattle.std.proofs.lemmas.Result.{err_from_is_err_and}
use Rattle.lfs_copy.proofs.Trees.{copied, not_begun, not_fitting, not_told}
use Rattle.lfs_copy.proofs.copying.copy_tree.Goals as goal

pub returns-in_err-target : goal.returns-in_err-target
returns-in_err-target g c =
    let p = err_from_is_err_and c.from_residual.result c.from_residual.ensures.1 in rw (p.1, p.2)
    (not_begun _ _ c.in_err-target.ensures)

pub returns-in-Err : goal.returns-in-Err
returns-in-Err g c = not_told c.in-Err.fault c.in_ok-target.ensures c.in-Err.ensures

pub returns-in_err-plan : goal.returns-in_err-plan
returns-in_err-plan g c =
    let p = err_from_is_err_and c.from_residual-in_err-plan.result c.from_residual-in_err-plan.ensures.1 in rw (p.1, p.2)
    (not_fitting _ c.in_ok-target.ensures c.in-Ok.ensures c.in_err-plan.ensures.unfit)

pub returns : goal.returns
returns g c = copied _ c.in_ok-target.ensures c.in-Ok.ensures c.in_ok-plan.ensures.planned c.make_tree.ensures

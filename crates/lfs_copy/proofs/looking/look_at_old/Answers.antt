use Rattle.std.proofs.lemmas.Result.{err_from_is_err_and}
use Rattle.std.proofs.Common.{refl}
use Rattle.lfs_fs.specs.Answers.{status_of}
use Rattle.lfs_copy.proofs.Looks.{old_told, root_refused, space_refused, tree_refused}
use Rattle.lfs_copy.proofs.looking.look_at_old.Goals as goal

pub returns-in_err-rows : goal.returns-in_err-rows
returns-in_err-rows g c =
    let p = err_from_is_err_and c.from_residual.result c.from_residual.ensures.1 in rw (p.1, p.2)
    (tree_refused _ c.in_err-rows.ensures)

pub returns-in_err-space : goal.returns-in_err-space
returns-in_err-space g c =
    let p = err_from_is_err_and c.from_residual-in_err-space.result c.from_residual-in_err-space.ensures.1 in rw (p.1, p.2)
    (space_refused _ _ c.in_ok-rows.ensures c.in_err-space.ensures)

pub returns-in_err-root : goal.returns-in_err-root
returns-in_err-root g c =
    let p = err_from_is_err_and c.from_residual-in_err-root.result c.from_residual-in_err-root.ensures.1 in rw (p.1, p.2)
    (root_refused _ _ _ _ _ _ c.in_ok-rows.ensures c.in_ok-space.ensures c.in_err-root.ensures)

pub returns : goal.returns
returns g c =
    old_told _ _ _ _ (status_of c.in_ok-root.root) c.in_ok-rows.ensures c.in_ok-space.ensures c.in_ok-root.ensures refl

use Rattle.std.proofs.lemmas.Result.{err_from_is_err_and}
use Rattle.lfs_copy.proofs.Looks.{measured, room_refused, version_refused}
use Rattle.lfs_copy.proofs.looking.measure.Goals as goal

pub returns-in_err-version : goal.returns-in_err-version
returns-in_err-version g c =
    let p = err_from_is_err_and c.from_residual.result c.from_residual.ensures.1 in rw (p.1, p.2)
    (version_refused _ c.in_err-version.ensures)

pub returns-in_err-space : goal.returns-in_err-space
returns-in_err-space g c =
    let p = err_from_is_err_and c.from_residual-in_err-space.result c.from_residual-in_err-space.ensures.1 in rw (p.1, p.2)
    (room_refused _ _ c.in_ok-version.ensures c.in_err-space.ensures)

pub returns : goal.returns
returns g c = measured _ _ _ _ c.in_ok-version.ensures c.in_ok-space.ensures

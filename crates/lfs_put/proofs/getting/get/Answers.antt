use Rattle.std.proofs.lemmas.Result.{err_from_is_err_and}
use Rattle.lfs_put.proofs.GetCalls.{cut_short, got, not_closed, not_opened}
use Rattle.lfs_put.proofs.getting.get.Goals as goal

pub returns-in-Err : goal.returns-in-Err
returns-in-Err g c = not_opened g.D.SectorDevice.state _ _ _ c.in-Err.fault c.in-Err.ensures

pub returns-in_err-count : goal.returns-in_err-count
returns-in_err-count g c =
    let p = err_from_is_err_and c.from_residual.result c.from_residual.ensures.1 in rw (p.1, p.2)
    (cut_short g.D.SectorDevice.state _ _ _ _ _ _ c.in-Ok.ensures c.in_err-count.ensures c.close-closed.ensures)

pub returns-in-Ok-closed : goal.returns-in-Ok-closed
returns-in-Ok-closed g c =
    got g.D.SectorDevice.state _ _ _ _ _ c.in-Ok.ensures c.in_ok-count.ensures c.in-Ok-closed.ensures

pub returns-in-Err-closed : goal.returns-in-Err-closed
returns-in-Err-closed g c =
    not_closed g.D.SectorDevice.state _ _ _ _ _ _ c.in-Err-closed.fault _ c.in-Ok.ensures c.in_ok-count.ensures
    c.in-Err-closed.ensures c.refused.ensures

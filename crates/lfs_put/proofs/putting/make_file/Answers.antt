use Rattle.std.proofs.lemmas.Result.{err_from_is_err_and}
use Rattle.lfs_put.proofs.PutCalls.{close_refused, copy_failed, create_refused, file_made}
use Rattle.lfs_put.proofs.putting.make_file.Goals as goal

pub returns-in_err-handle : goal.returns-in_err-handle
returns-in_err-handle g c =
    let p = err_from_is_err_and c.from_residual.result c.from_residual.ensures.1 in rw (p.1, p.2)
    (create_refused g.D.SectorDevice.state _ _ c.in_err-handle.field-0.0 c.in_err-handle.ensures)

pub returns-in_err-count : goal.returns-in_err-count
returns-in_err-count g c =
    let p = err_from_is_err_and c.from_residual-in_err-count.result c.from_residual-in_err-count.ensures.1 in rw (p.1, p.2)
    (copy_failed g.D.SectorDevice.state _ _ _ _ _ _ c.in_ok-handle.ensures c.in_err-count.ensures c.close-closed.ensures)

pub returns : goal.returns
returns g c =
    file_made g.D.SectorDevice.state _ _ _ _ _ c.in_ok-handle.ensures c.in_ok-count.ensures c.in_ok-closed.ensures

pub returns-in_err-closed : goal.returns-in_err-closed
returns-in_err-closed g c =
    let p = err_from_is_err_and c.from_residual-in_err-closed.result c.from_residual-in_err-closed.ensures.1 in rw (p.1, p.2)
    (close_refused g.D.SectorDevice.state _ _ _ _ _ c.in_err-closed.field-0.0 c.in_ok-handle.ensures c.in_ok-count.ensures
    c.in_err-closed.ensures)

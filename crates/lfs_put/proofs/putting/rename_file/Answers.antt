use Rattle.std.proofs.lemmas.Result.{err_from_is_err_and}
use Rattle.lfs_put.proofs.PutCalls.{file_renamed, not_synced, rename_refused, sync_refused}
use Rattle.lfs_put.proofs.putting.rename_file.Goals as goal

pub returns-in_err-sync : goal.returns-in_err-sync
returns-in_err-sync g c =
    let p = err_from_is_err_and c.from_residual.result c.from_residual.ensures.1 in rw (p.1, p.2)
    (sync_refused g.D.SectorDevice.state _ _ c.args.unfinished.now c.args.path.now c.in_err-sync.field-0.0
    c.in_err-sync.ensures)

pub returns-in_err-rename : goal.returns-in_err-rename
returns-in_err-rename g c =
    let p = err_from_is_err_and c.from_residual-in_err-rename.result c.from_residual-in_err-rename.ensures.1 in rw (p.1, p.2)
    (rename_refused g.D.SectorDevice.state _ _ _ c.in_err-rename.field-0.0 c.in_ok-sync.ensures c.in_err-rename.ensures)

pub returns : goal.returns
returns g c = file_renamed g.D.SectorDevice.state _ _ _ _ c.in_ok-sync.ensures c.in_ok-rename.ensures c.in_ok-sync-2.ensures

pub returns-in_err-sync-2 : goal.returns-in_err-sync-2
returns-in_err-sync-2 g c =
    let p = err_from_is_err_and c.from_residual-in_err-sync-2.result c.from_residual-in_err-sync-2.ensures.1 in rw (p.1, p.2)
    (not_synced g.D.SectorDevice.state _ _ _ _ c.in_err-sync-2.field-0.0 c.in_ok-sync.ensures c.in_ok-rename.ensures
    c.in_err-sync-2.ensures)

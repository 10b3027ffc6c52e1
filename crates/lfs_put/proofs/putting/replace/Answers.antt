use Rattle.std.proofs.lemmas.Result.{err_from_is_err_and}
use Rattle.lfs_put.proofs.PutCalls.{not_made, not_renamed, replaced}
use Rattle.lfs_put.proofs.putting.replace.Goals as goal

pub returns-in_err-count : goal.returns-in_err-count
returns-in_err-count g c =
    let p = err_from_is_err_and c.from_residual.result c.from_residual.ensures.1 in rw (p.1, p.2)
    (not_made g.D.SectorDevice.state _ _ c.args.path.now _ c.in_err-count.ensures)

pub returns : goal.returns
returns g c =
    replaced g.D.SectorDevice.state _ _ _ _ _ c.in_ok-count.ensures c.in_ok-rename_file.ensures

pub returns-in_err-rename_file : goal.returns-in_err-rename_file
returns-in_err-rename_file g c =
    let p = err_from_is_err_and c.from_residual-in_err-rename_file.result c.from_residual-in_err-rename_file.ensures.1 in rw (p.1, p.2)
    (not_renamed g.D.SectorDevice.state _ _ _ _ _ _ c.in_ok-count.ensures c.in_err-rename_file.ensures)

use Rattle.std.proofs.lemmas.Result.{err_from_is_err_and}
use Rattle.lfs_model.specs.Call.{Create}
use Rattle.lfs_copy.proofs.Both.{put_refused}
use Rattle.lfs_copy.proofs.Copies.{open_copied, open_cut, open_not_closed}
use Rattle.lfs_copy.proofs.copying.copy_open.Goals as goal

pub returns-in-Err : goal.returns-in-Err
returns-in-Err g c = put_refused _ (Create c.args.path.now) c.in-Err.fault c.in-Err.ensures

pub returns-in_err-bytes : goal.returns-in_err-bytes
returns-in_err-bytes g c =
    let p = err_from_is_err_and c.from_residual.result c.from_residual.ensures.1 in rw (p.1, p.2)
    (open_cut _ _ c.in-Ok.ensures c.in_err-bytes.ensures c.close-closed.ensures)

pub returns-in-Ok-closed : goal.returns-in-Ok-closed
returns-in-Ok-closed g c = open_copied c.in-Ok.ensures c.in_ok-bytes.ensures c.in-Ok-closed.ensures

pub returns-in-Err-closed : goal.returns-in-Err-closed
returns-in-Err-closed g c = open_not_closed c.in-Err-closed.fault c.in-Ok.ensures c.in_ok-bytes.ensures c.in-Err-closed.ensures

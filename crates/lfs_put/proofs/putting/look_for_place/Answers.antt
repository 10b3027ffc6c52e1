use Rattle.std.proofs.lemmas.Result.{err_from_is_err_and}
use Rattle.lfs_put.proofs.PutLooks.{sees_alone, sees_both, sees_none}
use Rattle.lfs_put.proofs.PutNames.{empty_is_none}
use Rattle.lfs_put.proofs.putting.look_for_place.Goals as goal

pub returns-in_err-refuse_directory : goal.returns-in_err-refuse_directory
returns-in_err-refuse_directory g c =
    let p = err_from_is_err_and c.from_residual.result c.from_residual.ensures.1 in rw (p.1, p.2)
    (sees_none g.D.SectorDevice.state _ c.args.above.now _ c.in_err-refuse_directory.ensures)

pub returns-then-is_empty : goal.returns-then-is_empty
returns-then-is_empty g c =
    sees_alone g.D.SectorDevice.state _ c.in_ok-refuse_directory.ensures
    (empty_is_none c.args.above.now c.if-is_empty.ensures)

pub returns : goal.returns
returns g c =
    sees_both g.D.SectorDevice.state _ _ c.want_directory.result c.in_ok-refuse_directory.ensures c.want_directory.ensures

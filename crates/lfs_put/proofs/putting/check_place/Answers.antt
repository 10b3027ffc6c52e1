use Rattle.std.proofs.lemmas.Result.{err_from_is_err_and}
use Rattle.lfs_put.proofs.PutLooks.{looked_for, not_looked}
use Rattle.lfs_put.proofs.putting.check_place.Goals as goal

pub returns-in_err-unfinished_path : goal.returns-in_err-unfinished_path
returns-in_err-unfinished_path g c =
    let p = err_from_is_err_and c.from_residual.result c.from_residual.ensures.1 in rw (p.1, p.2)
    (not_looked g.D.SectorDevice.state _ c.in_err-unfinished_path.field-0.0 c.in_err-unfinished_path.ensures.cause)

pub returns : goal.returns
returns g c =
    looked_for g.D.SectorDevice.state _ _ c.look_for_place.result c.in_ok-unfinished_path.ensures.beside
    c.directory_of.ensures c.look_for_place.ensures

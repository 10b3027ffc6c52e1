use Rattle.std.proofs.lemmas.Result.{err_from_is_err_and}
use Rattle.lfs_put.proofs.PutCalls.{cleared_alone, given_up, looked_alone, put_whole, replaces_of}
use Rattle.lfs_put.proofs.putting.put_by.Goals as goal

pub returns-in_err-refuse_directory : goal.returns-in_err-refuse_directory
returns-in_err-refuse_directory g c =
    let p = err_from_is_err_and c.from_residual.result c.from_residual.ensures.1 in rw (p.1, p.2)
    (looked_alone g.D.SectorDevice.state _ _ _ _ c.requires.beside c.in_err-refuse_directory.ensures)

pub returns-in_err-remove_left : goal.returns-in_err-remove_left
returns-in_err-remove_left g c =
    let p = err_from_is_err_and c.from_residual-in_err-remove_left.result c.from_residual-in_err-remove_left.ensures.1 in rw (p.1, p.2)
    (cleared_alone g.D.SectorDevice.state _ _ _ _ _ c.requires.beside c.in_ok-refuse_directory.ensures
    c.in_err-remove_left.ensures)

pub returns-in-Ok : goal.returns-in-Ok
returns-in-Ok g c =
    put_whole g.D.SectorDevice.state _ _ _ _ _ c.requires.beside c.in_ok-refuse_directory.ensures c.in_ok-remove_left.ensures
    (replaces_of g.D.SectorDevice.state _ _ _ _ c.in-Ok.is c.replace.ensures)

pub returns-in-Err : goal.returns-in-Err
returns-in-Err g c =
    given_up g.D.SectorDevice.state _ _ _ _ _ _ _ _ c.requires.beside c.in_ok-refuse_directory.ensures
    c.in_ok-remove_left.ensures
    (replaces_of g.D.SectorDevice.state _ _ _ _ c.in-Err.is c.replace.ensures) c.give_up.ensures

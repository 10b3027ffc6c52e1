use Rattle.lfs_fs.proofs.Prelude.{refl}
use Rattle.lfs_fs.proofs.paths.Steps.{readlink_refused}
use Rattle.lfs_fs.proofs.read.Calls.{readlink_fails, readlink_gives}
use Rattle.lfs_fs.proofs.Exits.{asked_fails, returned}
use Rattle.lfs_fs.proofs.fs.Fs.readlink.Goals as goal

pub returns-in_err-number : goal.returns-in_err-number
returns-in_err-number g c =
    rw (returned c.from_residual.ensures)
    (c.in_err-number.ensures.refused _ refl refl refl readlink_refused)

pub returns-in_err-text : goal.returns-in_err-text
returns-in_err-text g c =
    rw (returned c.from_residual-in_err-text.ensures)
    (let read = c.in_err-text.ensures in
    asked_fails (readlink_fails g.met.D.SectorDevice.lawful c.in_ok-number.ensures.found _ read.only.reads) read.only
    read.refused)

pub returns : goal.returns
returns g c =
    let read = c.in_ok-text.ensures in
    readlink_gives g.met.D.SectorDevice.lawful c.in_ok-number.ensures.found _ read.only.reads read.answer

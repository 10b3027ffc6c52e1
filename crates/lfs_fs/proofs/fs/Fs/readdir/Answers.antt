use Rattle.lfs_fs.proofs.Prelude.{refl}
use Rattle.lfs_fs.proofs.paths.Steps.{readdir_refused}
use Rattle.lfs_fs.proofs.read.Calls.{no_directory, readdir_fails, readdir_gives}
use Rattle.lfs_fs.proofs.Exits.{asked_fails, header_fails, header_read, returned}
use Rattle.lfs_fs.proofs.fs.Fs.readdir.Goals as goal

pub returns-in_err-number : goal.returns-in_err-number
returns-in_err-number g c =
    rw (returned c.from_residual.ensures)
    (c.in_err-number.ensures.refused _ refl refl refl readdir_refused)

pub returns-in_err-header : goal.returns-in_err-header
returns-in_err-header g c =
    rw (returned c.from_residual-in_err-header.ensures)
    (header_fails g.met.D.SectorDevice.lawful c.in_ok-number.ensures.found refl c.in_err-header.ensures)

pub returns-in_err-check_directory : goal.returns-in_err-check_directory
returns-in_err-check_directory g c =
    rw (returned c.from_residual-in_err-check_directory.ensures, c.in_err-check_directory.ensures.fault)
    (no_directory g.met.D.SectorDevice.lawful
    (header_read g.met.D.SectorDevice.lawful c.in_ok-number.ensures.found c.in_ok-header.ensures)
    c.in_err-check_directory.ensures.refused)

pub returns-in_err-entries : goal.returns-in_err-entries
returns-in_err-entries g c =
    rw (returned c.from_residual-in_err-entries.ensures)
    (let list = c.in_err-entries.ensures in
    asked_fails (readdir_fails g.met.D.SectorDevice.lawful
    (header_read g.met.D.SectorDevice.lawful c.in_ok-number.ensures.found c.in_ok-header.ensures)
    c.in_ok-check_directory.ensures.done _ list.only.reads) list.only list.failed)

pub returns : goal.returns
returns g c =
    let list = c.in_ok-entries.ensures in
    readdir_gives g.met.D.SectorDevice.lawful
    (header_read g.met.D.SectorDevice.lawful c.in_ok-number.ensures.found c.in_ok-header.ensures)
    c.in_ok-check_directory.ensures.done _ list.only.reads _ list.answer

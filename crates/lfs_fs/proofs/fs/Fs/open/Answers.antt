use Rattle.lfs_fs.proofs.Prelude.{refl}
use Rattle.lfs_fs.proofs.open_files.Opens.{opens_directory, opens_file, opens_too_many}
use Rattle.lfs_fs.proofs.paths.Steps.{open_refused}
use Rattle.lfs_fs.proofs.Exits.{header_fails, header_read, returned}
use Rattle.lfs_fs.proofs.fs.Fs.open.Goals as goal

pub returns-in_err-number : goal.returns-in_err-number
returns-in_err-number g c =
    rw (returned c.from_residual.ensures)
    (c.in_err-number.ensures.refused _ refl refl refl open_refused)

pub returns-in_err-header : goal.returns-in_err-header
returns-in_err-header g c =
    rw (returned c.from_residual-in_err-header.ensures)
    (header_fails g.met.D.SectorDevice.lawful c.in_ok-number.ensures.found refl c.in_err-header.ensures)

pub returns-in_err-check_file : goal.returns-in_err-check_file
returns-in_err-check_file g c =
    rw (returned c.from_residual-in_err-check_file.ensures, c.in_err-check_file.ensures.fault)
    (opens_directory g.met.D.SectorDevice.lawful
    (header_read g.met.D.SectorDevice.lawful c.in_ok-number.ensures.found c.in_ok-header.ensures)
    c.in_err-check_file.ensures.refused)

pub returns-in_default : goal.returns-in_default
returns-in_default g c =
    opens_too_many g.met.D.SectorDevice.lawful
    (header_read g.met.D.SectorDevice.lawful c.in_ok-number.ensures.found c.in_ok-header.ensures)
    c.in_ok-check_file.ensures.done c.in_default.ensures.full

pub returns : goal.returns
returns g c =
    let free = c.in-Some.ensures in
    opens_file g.met.D.SectorDevice.lawful
    (header_read g.met.D.SectorDevice.lawful c.in_ok-number.ensures.found c.in_ok-header.ensures)
    c.in_ok-check_file.ensures.done free.within free.first c.open.ensures

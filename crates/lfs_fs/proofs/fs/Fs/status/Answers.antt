use Rattle.lfs_fs.proofs.paths.Steps.{stat_refused}
use Rattle.lfs_fs.proofs.read.Calls.{stat_gives, stat_quiet}
use Rattle.lfs_fs.proofs.Exits.{header_fails, header_read, returned}
use Rattle.lfs_fs.proofs.fs.Fs.status.Goals as goal

pub returns-in_err-number : goal.returns-in_err-number
returns-in_err-number g c =
    rw (returned c.from_residual.ensures)
    (let quiet = stat_quiet c.args.follow c.args.path.now in
    c.in_err-number.ensures.refused _ quiet.free quiet.unclean quiet.memory (stat_refused c.args.path.now c.args.follow))

pub returns-in_err-header : goal.returns-in_err-header
returns-in_err-header g c =
    rw (returned c.from_residual-in_err-header.ensures)
    (header_fails g.met.D.SectorDevice.lawful c.in_ok-number.ensures.found
    (stat_quiet c.args.follow c.args.path.now).free
    c.in_err-header.ensures)

pub returns : goal.returns
returns g c =
    rw (c.from.ensures, c.from-2.ensures)
    (stat_gives g.met.D.SectorDevice.lawful
    (header_read g.met.D.SectorDevice.lawful c.in_ok-number.ensures.found c.in_ok-header.ensures))

use Rattle.lfs_fs.proofs.open_files.Closes.{fsync_serves, fsync_unopened}
use Rattle.lfs_fs.proofs.Exits.{after_begin, returned, unbegun}
use Rattle.lfs_fs.proofs.fs.Fs.fsync.Goals as goal

pub returns-in_err-begin : goal.returns-in_err-begin
returns-in_err-begin g c =
    rw (returned c.from_residual.ensures) (unbegun g.met.D.SectorDevice.lawful c.in_err-begin.ensures)

pub returns-in_err-file : goal.returns-in_err-file
returns-in_err-file g c =
    rw (returned c.from_residual-in_err-file.ensures)
    (after_begin c.in_ok-begin.ensures.done (λ running.
    fsync_unopened g.met.D.SectorDevice.lawful _ running _ c.in_err-file.field-0.0 c.in_err-file.ensures.missing))

pub returns : goal.returns
returns g c =
    after_begin c.in_ok-begin.ensures.done (λ running.
    fsync_serves running _ c.in_ok-file.ensures.opens _ c.sync.ensures)

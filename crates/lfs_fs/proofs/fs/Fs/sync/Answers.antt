use Rattle.lfs_fs.proofs.Prelude.{refl}
use Rattle.lfs_fs.proofs.save.Ends.{sync_done_serves, sync_fails}
use Rattle.lfs_fs.proofs.Exits.{after_begin, returned, unbegun}
use Rattle.lfs_fs.proofs.fs.Fs.sync.Goals as goal

pub returns-in_err-begin : goal.returns-in_err-begin
returns-in_err-begin g c =
    rw (returned c.from_residual.ensures) (unbegun g.met.D.SectorDevice.lawful c.in_err-begin.ensures)

pub returns : goal.returns
returns g c = after_begin c.in_ok-begin.ensures.done (λ running.
    sync_done_serves g.met.D.SectorDevice.lawful c.begin.new.self c.commit.new.self running c.in_ok-commit.ensures refl)

pub returns-in_err-commit : goal.returns-in_err-commit
returns-in_err-commit g c =
    rw (returned c.from_residual-in_err-commit.ensures) (after_begin c.in_ok-begin.ensures.done (λ running.
    sync_fails g.met.D.SectorDevice.lawful c.begin.new.self c.commit.new.self running c.in_err-commit.ensures refl))

use Rattle.lfs_fs.proofs.Prelude.{refl}
use Rattle.lfs_fs.proofs.clean.Ends.{clean_fails, cleaned_serves, worn_serves}
use Rattle.lfs_fs.proofs.Exits.{after_begin, returned, unbegun}
use Rattle.lfs_fs.proofs.fs.Fs.clean.Goals as goal

pub returns-in_err-begin-clause-serves : goal.returns-in_err-begin-clause-serves
returns-in_err-begin-clause-serves g c =
    rw (returned c.from_residual.ensures) (unbegun g.met.D.SectorDevice.lawful c.in_err-begin.ensures)

pub returns-in_err-check_worn-clause-serves : goal.returns-in_err-check_worn-clause-serves
returns-in_err-check_worn-clause-serves g c =
    rw (returned c.from_residual-in_err-check_worn.ensures) (after_begin c.in_ok-begin.ensures.done (λ running.
    worn_serves g.met.D.SectorDevice.lawful running c.in_err-check_worn.ensures.fault c.in_err-check_worn.ensures.old))

pub returns-clause-serves : goal.returns-clause-serves
returns-clause-serves g c =
    after_begin c.in_ok-begin.ensures.done (λ running.
    cleaned_serves g.met.D.SectorDevice.lawful c.begin.new.self c.clean.new.self running
    c.in_ok-clean.ensures.cleans.room
    c.in_ok-check_worn.ensures.young c.in_ok-clean.ensures.told refl)

pub returns-in_err-clean-clause-serves : goal.returns-in_err-clean-clause-serves
returns-in_err-clean-clause-serves g c =
    rw (returned c.from_residual-in_err-clean.ensures) (after_begin c.in_ok-begin.ensures.done (λ running.
    clean_fails g.met.D.SectorDevice.lawful c.begin.new.self c.clean.new.self running c.in_err-clean.ensures.cleans.room
    c.in_ok-check_worn.ensures.young c.in_err-clean.ensures.told refl))

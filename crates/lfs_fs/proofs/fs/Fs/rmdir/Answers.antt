use Rattle.lfs_fs.proofs.Prelude.{arith, refl, Busy}
use Rattle.lfs_fs.proofs.calls.Files.{nameless}
use Rattle.lfs_fs.proofs.paths.Places.{nowhere_serves}
use Rattle.lfs_fs.proofs.rmdir.Ends.{empty_refused, rmdir_ends}
use Rattle.lfs_steps.proofs.rmdir.Steps.{rmdir_refused, rmdir_root}
use Rattle.lfs_fs.proofs.Exits.{asked_fails, entry_fits, returned}
use Rattle.lfs_fs.proofs.fs.Fs.rmdir.Goals as goal

-- the path is refused, or has no piece
pub returns-in_err-directory : goal.returns-in_err-directory
returns-in_err-directory g c =
    rw (returned c.from_residual.ensures)
    (nowhere_serves g.met.D.SectorDevice.lawful _ _ _ _ refl refl refl (λ k m0 m s keeps is. rmdir_refused _ s _)
    _ _ c.in_err-directory.ensures.refused
    (λ d reached running. nameless g.met.D.SectorDevice.lawful d reached running _ refl Busy tt
    (λ s sound. rmdir_root _ s _ d)))

-- the rule takes no directory
pub returns-in_err-entry : goal.returns-in_err-entry
returns-in_err-entry g c =
    let begun = c.in_ok-directory.ensures.begun in
    let why = c.in_err-entry.ensures in
    rw (returned c.from_residual-in_err-entry.ensures)
    (asked_fails (empty_refused g.met.D.SectorDevice.lawful begun.reached begun.ready _ why.only.reads) why.only
    why.refused)

pub finish-requires-clause-room : goal.finish-requires-clause-room
finish-requires-clause-room g c =
    let draft = c.drop_entry-drafted.ensures in
    entry_fits g.met.D.SectorDevice.lawful c.in_ok-directory.ensures.begun c.in_ok-entry.ensures.only
    draft.only 4 2 (omega arith) draft.small

pub returns : goal.returns
returns g c =
    let begun = c.in_ok-directory.ensures.begun in
    let drops = c.drop_entry-drafted.ensures in
    rmdir_ends g.met.D.SectorDevice.lawful begun.reached begun.ready _ c.in_ok-entry.ensures.only.reads
    c.in_ok-entry.ensures.has
    _ drops.only.redrafts c.finish.new.self c.finish.ensures.rest _ _ c.finish.ensures.ends
    (entry_fits g.met.D.SectorDevice.lawful c.in_ok-directory.ensures.begun c.in_ok-entry.ensures.only
    drops.only 4 2 (omega arith) drops.small)
    drops.done drops.counted drops.failed
    drops.only.halted drops.only.other

use Rattle.lfs_fs.proofs.Prelude.{inl}
use Rattle.lfs_fs.proofs.new_entries.Ends.{bytes_of}
use Rattle.lfs_fs.proofs.paths.Places.{place_begins, place_lacks}
use Rattle.lfs_fs.proofs.Exits.{returned}
use Rattle.lfs_fs.proofs.fs.Fs.begin_at.Goals as goal

pub returns-in_err-begin-clause-refused : goal.returns-in_err-begin-clause-refused
returns-in_err-begin-clause-refused g c =
    rw (returned c.from_residual.ensures)
    (inl (c.in_err-begin.ensures.fault, c.in_err-begin.ensures.same, c.in_err-begin.ensures.halted))

pub returns-in_err-place-clause-refused : goal.returns-in_err-place-clause-refused
returns-in_err-place-clause-refused g c =
    rw (returned c.from_residual-in_err-place.ensures)
    (place_lacks g.met.D.SectorDevice.lawful _ _ _ c.in_ok-begin.ensures.done c.in_err-place.ensures.reads
    (bytes_of c.args.path.now c.type_inv.path) _ _ c.in_err-place.ensures.refused)

pub returns-clause-begun : goal.returns-clause-begun
returns-clause-begun g c =
    let found = c.in_ok-place.ensures in
    place_begins g.met.D.SectorDevice.lawful c.in_ok-begin.ensures.done found.reads
    (bytes_of c.args.path.now c.type_inv.path) found.found

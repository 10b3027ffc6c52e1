use Rattle.lfs_fs.proofs.Prelude.{inl, inr, refl, here}
use Rattle.lfs_fs.proofs.paths.Places.{path_read}
use Rattle.lfs_fs.proofs.Exits.{parent_fails, parent_found, returned}
use Rattle.lfs_fs.proofs.fs.Fs.reach.Goals as goal

pub returns-in_err-place-clause-reads : goal.returns-in_err-place-clause-reads
returns-in_err-place-clause-reads g c = path_read g.D.SectorDevice.state c.parent.new.files c.in_err-place.ensures.reads

pub returns-in_err-place-clause-refused : goal.returns-in_err-place-clause-refused
returns-in_err-place-clause-refused g c = rw (returned c.from_residual.ensures) (inl (parent_fails c.in_err-place.ensures))

pub returns-in_default-clause-reads : goal.returns-in_default-clause-reads
returns-in_default-clause-reads g c = path_read g.D.SectorDevice.state c.parent.new.files c.in_ok-place.ensures.reads

pub returns-in_default-clause-refused : goal.returns-in_default-clause-refused
returns-in_default-clause-refused g c =
    inr (refl, (here c.in_ok-place.place.chain, parent_found c.in_ok-place.ensures c.in_default.is refl))

pub returns-clause-reads : goal.returns-clause-reads
returns-clause-reads g c = path_read g.D.SectorDevice.state c.parent.new.files c.in_ok-place.ensures.reads

pub returns-clause-found : goal.returns-clause-found
returns-clause-found g c = parent_found c.in_ok-place.ensures c.in-Some.is c.directory.ensures.value

use Rattle.lfs_fs.proofs.Prelude.{ap, refl, Err}
use Rattle.lfs_fs.proofs.new_entries.Ends.{bytes_of}
use Rattle.lfs_fs.proofs.paths.Places.{path_read, ready_after}
use Rattle.lfs_fs.proofs.rename.Paths.{reaches_both, second_ends}
use Rattle.lfs_fs.proofs.Exits.{returned}
use Rattle.lfs_fs.proofs.fs.Fs.rename_from.Goals as goal

pub returns : goal.returns
returns g c v from reached =
    let walk = c.in_ok-place.ensures in
    c.rename_at.ensures v from c.args.to.now (reaches_both g.met.D.SectorDevice.lawful v
    reached c.requires.ready c.parent.new.files walk.reads c.args.to.now
    (bytes_of c.args.to.now c.type_inv.to) c.in_ok-place.place.chain c.in_ok-place.place.last walk.last walk.answer)

-- the second path is refused
pub returns-in_err-place : goal.returns-in_err-place
returns-in_err-place g c v from reached =
    let walk = c.in_err-place.ensures in
    rw (returned c.from_residual.ensures)
    (second_ends g.met.D.SectorDevice.lawful v reached c.requires.ready c.parent.new.files walk.reads c.args.to.now _ _
    refl
    walk.refused (λ e. walk.halted (ap Err e)) (λ e. walk.other (ap Err e)))

pub rename_at-requires : goal.rename_at-requires
rename_at-requires g c = record {
  ready =
      ready_after g.D.SectorDevice.state c.requires.ready
      (path_read g.D.SectorDevice.state {old = c.args.self.now} c.parent.new.files c.in_ok-place.ensures.reads);
}

use Rattle.lfs_fs.proofs.Prelude.{refl, seen, segments_of}
use Rattle.lfs_fs.proofs.calls.Files.{with_store}
use Rattle.lfs_fs.proofs.new_entries.Ends.{bytes_of}
use Rattle.lfs_fs.proofs.paths.Places.{begun_ready, path_fails, path_read, place_reached, ready_after}
use Rattle.lfs_fs.proofs.rename.Paths.{first_refused}
use Rattle.lfs_fs.proofs.Exits.{parent_fails, parent_found, returned, unbegun}
use Rattle.lfs_fs.proofs.fs.Fs.rename.Goals as goal

pub returns-in_err-begin : goal.returns-in_err-begin
returns-in_err-begin g c =
    rw (returned c.from_residual.ensures) (unbegun g.met.D.SectorDevice.lawful c.in_err-begin.ensures)

-- the first path is refused
pub returns-in_err-place : goal.returns-in_err-place
returns-in_err-place g c =
    rw (returned c.from_residual-in_err-place.ensures)
    (path_fails g.met.D.SectorDevice.lawful c.args.self.now _ c.args.from.now _ refl refl refl
    (λ k m0 m s keeps is r w. first_refused (segments_of (seen c.args.self.now)) s c.args.from.now c.args.to.now is.log.sound.named r w)
    record {
      begun = c.begin.new.self;
      begins = c.in_ok-begin.ensures.done;
      reads = path_read g.D.SectorDevice.state c.parent.new.files c.in_err-place.ensures.reads;
      fails = parent_fails c.in_err-place.ensures;
    })

pub returns : goal.returns
returns g c =
    c.rename_from.ensures (seen c.args.self.now) c.args.from.now
    (place_reached g.met.D.SectorDevice.lawful c.args.self.now (with_store c.begin.new.self c.parent.new.files)
    c.args.from.now
    c.in_ok-begin.ensures.done (path_read g.D.SectorDevice.state {old = c.begin.new.self} c.parent.new.files
    c.in_ok-place.ensures.reads)
    (bytes_of c.args.from.now c.type_inv.from) (parent_found c.in_ok-place.ensures refl c.directory.ensures.value))

pub rename_from-requires : goal.rename_from-requires
rename_from-requires g c = record {
  ready =
      ready_after g.D.SectorDevice.state (begun_ready g.D.SectorDevice.state c.begin.new.self
      c.in_ok-begin.ensures.done)
      (path_read g.D.SectorDevice.state {old = c.begin.new.self} c.parent.new.files c.in_ok-place.ensures.reads);
}

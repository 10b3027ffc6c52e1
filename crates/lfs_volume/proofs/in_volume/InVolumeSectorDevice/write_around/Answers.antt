use Rattle.std.proofs.lemmas.Result.{on_err_weaker, on_ok_weaker}
use Rattle.lfs_places.proofs.PlacedStates.{placed_bears_all, placed_written}
use Rattle.lfs_volume.proofs.Keeping.{found_written}
use Rattle.lfs_volume.proofs.VolumeStates.{volume_carry, volume_crash, volume_may}
use Rattle.lfs_volume.proofs.in_volume.InVolumeSectorDevice.write_around.Goals as goal

pub invariant_of-self : goal.invariant_of-self
invariant_of-self g c =
    let crash = rw c.place-place.ensures at c.write_around.ensures.crash in
    found_written g.D.SectorDevice.state c.self.inside.places c.self.inside.held.value
    c.self.inside.device c.write_around.new.self c.self.invariant c.write_around.ensures.carries c.args.sector
    c.args.bytes.now crash

pub returns-clause-written : goal.returns-clause-written
returns-clause-written g c =
    let inside = rw (← c.self.view_is) at c.requires in
    let old = g.D.SectorDevice.state c.self.inside.device in
    let new = g.D.SectorDevice.state c.write_around.new.self in
    let lawful = g.met.D.SectorDevice.lawful c.self.inside.device in
    let written = rw c.place-place.ensures at c.write_around.ensures.written in
    let placed = placed_written c.self.inside.places old new c.args.sector c.args.bytes.now lawful c.self.invariant.size inside in
    rw (← c.self.view_is) (on_ok_weaker c.write_around.result (λ is keeps. placed (is keeps.1)) written)

pub returns-clause-failed_write : goal.returns-clause-failed_write
returns-clause-failed_write g c =
    let may = rw c.place-place.ensures at c.write_around.ensures.failed_write in
    let old = g.D.SectorDevice.state c.self.inside.device in
    let new = g.D.SectorDevice.state c.write_around.new.self in
    let volume = volume_may _ c.self.inside.places old new c.write_around.ensures.carries c.args.sector c.args.bytes.now in
    rw (← c.self.view_is) (on_err_weaker c.write_around.result (λ is keeps. volume (is keeps.1) keeps) may)

pub returns-clause-crash : goal.returns-clause-crash
returns-clause-crash g c =
    let crash = rw c.place-place.ensures at c.write_around.ensures.crash in
    let old = g.D.SectorDevice.state c.self.inside.device in
    let new = g.D.SectorDevice.state c.write_around.new.self in
    rw (← c.self.view_is) (volume_crash _ c.self.inside.places old new c.write_around.ensures.carries c.args.sector c.args.bytes.now crash)

pub returns-clause-borne : goal.returns-clause-borne
returns-clause-borne g c =
    let old = g.D.SectorDevice.state c.self.inside.device in
    rw (← c.self.view_is) (on_err_weaker c.write_around.result (placed_bears_all c.self.inside.places old) c.write_around.ensures.borne)

pub returns-clause-carries : goal.returns-clause-carries
returns-clause-carries g c =
    let old = g.D.SectorDevice.state c.self.inside.device in
    let new = g.D.SectorDevice.state c.write_around.new.self in
    rw (← c.self.view_is) (volume_carry _ c.self.inside.places old new c.write_around.ensures.carries)

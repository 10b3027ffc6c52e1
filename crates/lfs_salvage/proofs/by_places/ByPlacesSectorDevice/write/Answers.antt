use Rattle.std.proofs.lemmas.Result.{on_err_weaker, on_ok_weaker}
use Rattle.lfs_places.proofs.PlacedStates.{placed_bears_all, placed_carry, placed_crash, placed_written}
use Rattle.lfs_places.proofs.Placing.{may_placed}
use Rattle.lfs_salvage.proofs.by_places.ByPlacesSectorDevice.write.Goals as goal

pub returns-clause-written : goal.returns-clause-written
returns-clause-written g c =
    let inside = rw (← c.self.view_is) at c.requires in
    let old = g.D.SectorDevice.state c.self.inside.device in
    let new = g.D.SectorDevice.state c.write.new.self in
    let lawful = g.met.D.SectorDevice.lawful c.self.inside.device in
    let written = rw c.place-place.ensures at c.write.ensures.written in
    let placed = placed_written c.self.inside.places old new c.args.sector c.args.bytes.now lawful c.self.invariant inside in
    rw (← c.self.view_is) (on_ok_weaker c.write.result (λ is keeps. placed (is keeps)) written)

pub returns-clause-failed_write : goal.returns-clause-failed_write
returns-clause-failed_write g c =
    let may = rw c.place-place.ensures at c.write.ensures.failed_write in
    let old = g.D.SectorDevice.state c.self.inside.device in
    let new = g.D.SectorDevice.state c.write.new.self in
    let volume = may_placed c.self.inside.places c.args.sector c.args.bytes.now old.unit old.content new.content in
    rw (← c.self.view_is) (on_err_weaker c.write.result (λ is keeps. volume (is keeps)) may)

pub returns-clause-crash : goal.returns-clause-crash
returns-clause-crash g c =
    let crash = rw c.place-place.ensures at c.write.ensures.crash in
    let old = g.D.SectorDevice.state c.self.inside.device in
    let new = g.D.SectorDevice.state c.write.new.self in
    rw (← c.self.view_is) (placed_crash c.self.inside.places old new c.args.sector c.args.bytes.now crash)

pub returns-clause-borne : goal.returns-clause-borne
returns-clause-borne g c =
    let old = g.D.SectorDevice.state c.self.inside.device in
    rw (← c.self.view_is) (on_err_weaker c.write.result (placed_bears_all c.self.inside.places old) c.write.ensures.borne)

pub returns-clause-carries : goal.returns-clause-carries
returns-clause-carries g c =
    let old = g.D.SectorDevice.state c.self.inside.device in
    let new = g.D.SectorDevice.state c.write.new.self in
    rw (← c.self.view_is) (placed_carry c.self.inside.places old new c.write.ensures.carries)

use Rattle.std.proofs.lemmas.Result.{on_err_weaker}
use Rattle.lfs_places.proofs.PlacedStates.{placed_bears_all, placed_carry}
use Rattle.lfs_salvage.proofs.by_places.ByPlacesSectorDevice.sync.Goals as goal

pub returns-clause-borne : goal.returns-clause-borne
returns-clause-borne g c =
    let old = g.D.SectorDevice.state c.self.inside.device in
    rw (← c.self.view_is) (on_err_weaker c.sync.result (placed_bears_all c.self.inside.places old) c.sync.ensures.borne)

pub returns-clause-carries : goal.returns-clause-carries
returns-clause-carries g c =
    let old = g.D.SectorDevice.state c.self.inside.device in
    let new = g.D.SectorDevice.state c.sync.new.self in
    rw (← c.self.view_is) (placed_carry c.self.inside.places old new c.sync.ensures.carries)

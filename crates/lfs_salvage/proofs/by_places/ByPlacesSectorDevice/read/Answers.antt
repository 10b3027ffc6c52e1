use Rattle.lfs_places.specs.Lawful.{cells_stand}
use Rattle.lfs_salvage.proofs.by_places.ByPlacesSectorDevice.read.Goals as goal

pub returns-clause-value : goal.returns-clause-value
returns-clause-value g c =
    let e = cells_stand c.self.inside.places (g.D.SectorDevice.state c.self.inside.device).content c.args.sector in
    rw (← c.self.view_is) (rw e (rw (← c.place-place.ensures) c.read.ensures.value))

pub returns-clause-unreadable : goal.returns-clause-unreadable
returns-clause-unreadable g c =
    let e = cells_stand c.self.inside.places (g.D.SectorDevice.state c.self.inside.device).content c.args.sector in
    rw (← c.self.view_is) (rw e (rw (← c.place-place.ensures) c.read.ensures.unreadable))

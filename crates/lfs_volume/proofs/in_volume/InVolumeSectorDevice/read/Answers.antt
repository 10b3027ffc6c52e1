use Rattle.std.proofs.lemmas.Result.{on_ok_weaker}
use Rattle.lfs_places.specs.Lawful.{cells_stand}
use Rattle.lfs_volume.proofs.in_volume.InVolumeSectorDevice.read.Goals as goal

pub returns-clause-value : goal.returns-clause-value
returns-clause-value g c =
    let e = cells_stand c.self.inside.places (g.D.SectorDevice.state c.self.inside.device).content c.args.sector in
    rw (← c.self.view_is) (rw e (rw (← c.place-place.ensures) (on_ok_weaker c.read.result (λ is keeps. is keeps.1) c.read.ensures.value)))

pub returns-clause-unreadable : goal.returns-clause-unreadable
returns-clause-unreadable g c =
    let e = cells_stand c.self.inside.places (g.D.SectorDevice.state c.self.inside.device).content c.args.sector in
    rw (← c.self.view_is) (rw e (rw (← c.place-place.ensures) (λ is keeps. c.read.ensures.unreadable is keeps.1)))

use Rattle.std.proofs.Common.{◌∙◌, ap}
use Rattle.lfs_places.specs.Places.{place_of}
use Rattle.lfs_format.proofs.FirstMoments.{writes_one}
use Rattle.lfs_format.proofs.making.write_sector.Goals as goal

pub returns-in_err-write-clause-writes : goal.returns-in_err-write-clause-writes
returns-in_err-write-clause-writes g c =
    let crash = rw (c.place-place.ensures ∙ ap (λ p. place_of p c.args.sector) c.places_by.ensures) at c.write.ensures.crash in
    writes_one c.args.shape.version c.args.shape.segments c.args.shape.count.most c.requires.after c.requires.within
    (g.met.D.SectorDevice.lawful _) crash c.write.ensures.carries c.write.ensures.time

pub returns-clause-writes : goal.returns-clause-writes
returns-clause-writes g c =
    let crash = rw (c.place-place.ensures ∙ ap (λ p. place_of p c.args.sector) c.places_by.ensures) at c.write.ensures.crash in
    writes_one c.args.shape.version c.args.shape.segments c.args.shape.count.most c.requires.after c.requires.within
    (g.met.D.SectorDevice.lawful _) crash c.write.ensures.carries c.write.ensures.time

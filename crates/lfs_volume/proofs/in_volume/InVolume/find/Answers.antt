use Rattle.std.proofs.Common.{◌∙◌, ap}
use Rattle.lfs_model.specs.Content.{newest}
use Rattle.lfs_places.specs.Places.{volume_content}
use Rattle.lfs_volume.proofs.Standing.{units_whole}
use Rattle.lfs_volume.proofs.in_volume.InVolume.find.Goals as goal

pub returns-in-Ok-clause-whole : goal.returns-in-Ok-clause-whole
returns-in-Ok-clause-whole g c k is =
    units_whole c.in-Ok.places (volume_content c.in-Ok.places (g.D.SectorDevice.state c.of-held.result.value).content) k
    (ap (λ d. newest (volume_content c.in-Ok.places (g.D.SectorDevice.state d).content)) c.of-held.ensures ∙ is)

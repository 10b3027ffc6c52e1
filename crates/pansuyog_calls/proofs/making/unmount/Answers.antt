use Rattle.std.proofs.Common.{◌∙◌, Some, ap, refl, rules}
use Rattle.lfs_volume.specs.Found.{Found}
use Rattle.pansuyog_calls.specs.Volumes.{is_unmounted}
use Rattle.pansuyog_calls.proofs.making.unmount.Goals as goal

pub returns-in-Some : goal.returns-in-Some
returns-in-Some g c =
    is_unmounted c.in-Some.fs (search rules) refl c.take.ensures.after
    (ap (λ device. Some device) (c.into_inner.ensures.device ∙ ap (λ (v : Found g.row.D.Denot). v.device) c.into_device.ensures))
    (record { listing = refl; access = refl; recorder = refl })

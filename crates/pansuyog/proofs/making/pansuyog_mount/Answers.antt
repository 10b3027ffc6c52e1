use Rattle.std.proofs.Common.{◌∙◌, rules}
use Rattle.pansuyog.proofs.Tried.{mount_not_tried, mount_tried}
use Rattle.pansuyog.proofs.making.pansuyog_mount.Goals as goal

pub returns : goal.returns
returns c =
    mount_tried _ c.in-Ok.device c.volume-volume.ensures.value
    c.in-Ok.ensures.unmounted c.in-Ok.ensures.taken (c.mount_on.ensures.listing ∙ c.in-Ok.ensures.listing)
    c.mount_on.ensures.recorder (search rules)

pub returns-in-Err : goal.returns-in-Err
returns-in-Err c = mount_not_tried c.volume-volume.ensures.value c.in-Err.ensures.refused

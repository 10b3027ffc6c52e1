use Rattle.std.proofs.Common.{rules}
use Rattle.pansuyog_calls.specs.Volumes.{is_tried}
use Rattle.pansuyog_calls.proofs.making.mount.Goals as goal

pub returns-in-Some : goal.returns-in-Some
returns-in-Some g c =
    let rest = c.mount_on.ensures.rest in
    is_tried c.in-Some.device (search rules) (search rules) (search rules)
    (record { listing = rest.listing; access = rest.access; recorder = rest.recorder })

use Rattle.lfs_root.proofs.Slots.{found_newest}
use Rattle.lfs_root.proofs.newest.Goals as goal

pub returns-in-Some-clause-found : goal.returns-in-Some-clause-found
returns-in-Some-clause-found g c keeps =
    found_newest _ _ _ _ _ _ c.sync.ensures.untouched.content c.read_slot.ensures.untouched.content
    (c.in-Ok.ensures.holds (c.read_slot-2.ensures.carries.kept_before keeps)) (c.in-Ok-read_slot.ensures.holds keeps)
    c.greater.ensures.newest c.in-Some.is

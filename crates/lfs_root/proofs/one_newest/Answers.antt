use Rattle.lfs_root.proofs.Slots as slots
use Rattle.lfs_root.proofs.one_newest.Goals as goal

pub returns : goal.returns
returns c = slots.one_newest

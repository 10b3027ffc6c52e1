use Rattle.lfs_layout.proofs.Bytes.{part_cut}
use Rattle.lfs_layout.proofs.slot.name_of.Goals as goal

pub returns : goal.returns
returns c = part_cut 5 c.args.len c.args.slot.now

use Rattle.std.proofs.Common.{◌*◌}
use Rattle.lfs_model.specs.Tree.{slot_len}
use Rattle.lfs_layout.proofs.Bytes.{part_cut}
use Rattle.lfs_layout.proofs.slot.nth_slot.Goals as goal

pub returns-clause-bytes : goal.returns-clause-bytes
returns-clause-bytes c =
    rw c.slot_len-len.ensures.value (part_cut (slot_len c.args.form * c.args.place) (slot_len c.args.form) c.args.block.now)

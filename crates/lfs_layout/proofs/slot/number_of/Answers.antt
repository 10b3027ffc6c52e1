use Rattle.std.proofs.Common.{◌∙◌}
use Rattle.lfs_model.specs.Fields.{read32}
use Rattle.lfs_layout.proofs.Bytes.{little_at}
use Rattle.lfs_layout.proofs.slot.number_of.Goals as goal

pub returns : goal.returns
unfolding read32
returns c = c.read_u32.ensures ∙ little_at 4 0 c.args.slot.now

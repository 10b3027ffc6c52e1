use Rattle.std.proofs.Common.{arith}
use Rattle.lfs_model.specs.Checkpoint.{usage_blocks}
use Rattle.lfs_model.proofs.UnitSizes.{made_whole, shifted}
use Rattle.lfs_format.proofs.image.first_used.Goals as goal

pub returns-clause-most : goal.returns-clause-most
returns-clause-most c =
    rw (shifted c.args.unit_power c.requires.unit, c.usage_count.ensures)
    (made_whole c.args.unit_power c.requires.unit (usage_blocks c.args.segments) (omega (arith, c.requires.count.most))).1

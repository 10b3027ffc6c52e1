use Rattle.std.proofs.Common.{arith}
use Rattle.lfs_inodes.proofs.Reversed.{removed}
use Rattle.lfs_inodes.proofs.index.KeyIndex.remove.Goals as goal

pub returns-clause-items : goal.returns-clause-items
returns-clause-items c =
    removed _ c.self.inside.falling.items c.self.view_is c.args.at c.requires c.remove-place.result c.len.result
    (omega arith) c.remove-place.ensures.items

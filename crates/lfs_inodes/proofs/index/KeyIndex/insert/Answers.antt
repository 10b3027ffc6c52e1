use Rattle.std.proofs.Common.{arith}
use Rattle.lfs_inodes.proofs.Reversed.{inserted}
use Rattle.lfs_inodes.proofs.index.KeyIndex.insert.Goals as goal

pub returns-clause-items : goal.returns-clause-items
returns-clause-items c =
    inserted _ c.self.inside.falling.items c.self.view_is c.args.at c.args.place c.requires.inside c.len.result
    (omega arith) c.insert.new.self.items (rw c.unwrap.ensures at c.insert.ensures.items)

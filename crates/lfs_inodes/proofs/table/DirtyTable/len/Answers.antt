use Rattle.lfs_inodes.proofs.Held.{codes_value, small_value}
use Rattle.lfs_inodes.proofs.Moving.{are_of_files}
use Rattle.lfs_inodes.proofs.table.DirtyTable.len.Goals as goal

pub returns-clause-files : goal.returns-clause-files
returns-clause-files c =
    are_of_files c.args.self.now.blocks (small_value _ c.self.inside.places.items c.self.inside.arena.items c.self.view_is)

pub returns-clause-codes : goal.returns-clause-codes
returns-clause-codes c = codes_value _ c.self.inside.places.items c.self.inside.arena.items c.self.view_is

use Rattle.std.proofs.Common.{rules}
use Rattle.lfs_memory.proofs.Lifted.{pointed_stands}
use Rattle.lfs_memory.proofs.LiftedKeys.{leaf_low}
use Rattle.lfs_memory.proofs.lifting.known_pointer.Goals as goal

pub returns : goal.returns
returns c = pointed_stands c.args.memory.now _ _ c.requires.below (leaf_low c.args.key.formed) (search rules)

use Rattle.lfs_inodes.proofs.Codes.{placed}
use Rattle.lfs_inodes.proofs.key.BlockKey.name.Goals as goal

pub returns-clause-placed : goal.returns-clause-placed
returns-clause-placed c = rw (c.file.ensures.file, c.kind.ensures, c.index.ensures) (placed c.args.self.formed)

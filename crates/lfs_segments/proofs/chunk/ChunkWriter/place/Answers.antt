use Rattle.std.proofs.Common.{rules}
use Rattle.lfs_segments.proofs.Once.{placed_step}
use Rattle.lfs_segments.proofs.chunk.ChunkWriter.place.Goals as goal

pub returns-clause-once : goal.returns-clause-once
returns-clause-once c =
    placed_step _ _ _ _ c.args.name c.args.lives _ c.requires.opened (search rules) (search rules) (search rules) (search rules)

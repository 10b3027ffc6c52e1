use Rattle.std.proofs.Common.{rules}
use Rattle.lfs_segments.proofs.Once.{padded_step}
use Rattle.lfs_segments.proofs.chunk.ChunkWriter.pad.Goals as goal

pub returns-clause-once : goal.returns-clause-once
returns-clause-once c = padded_step _ _ _ _ c.named.result c.requires.opened (search rules) (search rules) (search rules)

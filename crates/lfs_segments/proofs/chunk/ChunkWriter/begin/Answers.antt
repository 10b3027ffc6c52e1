use Rattle.std.proofs.Common.{rules}
use Rattle.lfs_segments.proofs.Once.{begun_step}
use Rattle.lfs_segments.proofs.chunk.ChunkWriter.begin.Goals as goal

pub returns-in-Some-clause-once : goal.returns-in-Some-clause-once
returns-in-Some-clause-once c = begun_step _ _ _ _ c.args.age (search rules) (search rules) (search rules)

pub returns-clause-once : goal.returns-clause-once
returns-clause-once c = begun_step _ _ _ _ c.args.age (search rules) (search rules) (search rules)

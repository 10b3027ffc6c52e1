use Rattle.std.proofs.Common.{refl, arith}
use Rattle.lfs_model.specs.Summary.{IsPlaced}
use Rattle.lfs_segments.proofs.chunk.named.Goals as goal

pub returns-clause-placed : goal.returns-clause-placed
unfolding IsPlaced
returns-clause-placed c = (refl, omega (arith, c.requires))

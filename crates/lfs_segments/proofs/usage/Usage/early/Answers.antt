use Rattle.std.proofs.Common.{arith}
use Rattle.lfs_segments.proofs.Early.{early_total}
use Rattle.lfs_segments.proofs.usage.Usage.early.Goals as goal

pub returns-clause-most : goal.returns-clause-most
returns-clause-most c = omega (arith, early_total c.self.inside.states.items c.self.invariant.0.each)

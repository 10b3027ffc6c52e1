use Rattle.std.proofs.Common.{rules}
use Rattle.lfs_segments.proofs.Steps.{lifts_of}
use Rattle.lfs_segments.proofs.usage.Usage.lift.Goals as goal

pub returns : goal.returns
returns c = lifts_of c.lifted-state.result c.change.ensures.table c.requires.inside (search rules) (search rules) (search rules)
    c.change.ensures.set (search rules) (search rules)

use Rattle.std.proofs.Common.{rules}
use Rattle.lfs_segments.proofs.Steps.{takes_away_of}
use Rattle.lfs_segments.proofs.usage.Usage.take_away.Goals as goal

pub returns : goal.returns
returns c = takes_away_of c.taken_away-state.result c.change.ensures.table c.requires.inside (search rules) (search rules) (search rules)
    c.change.ensures.set (search rules) (search rules)

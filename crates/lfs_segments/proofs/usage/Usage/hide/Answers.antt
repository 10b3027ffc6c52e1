use Rattle.std.proofs.Common.{rules}
use Rattle.lfs_segments.proofs.Steps.{hides_of}
use Rattle.lfs_segments.proofs.usage.Usage.hide.Goals as goal

pub returns : goal.returns
returns c = hides_of c.hidden-state.result c.change.ensures.table c.requires.inside (search rules) (search rules) (search rules)
    c.change.ensures.set (search rules) (search rules)

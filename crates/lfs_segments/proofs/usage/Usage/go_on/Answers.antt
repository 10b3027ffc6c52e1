use Rattle.std.proofs.Common.{rules}
use Rattle.lfs_segments.proofs.Steps.{goes_on_of}
use Rattle.lfs_segments.proofs.usage.Usage.go_on.Goals as goal

pub returns : goal.returns
returns c = goes_on_of c.continued-state.result c.change.ensures.table c.requires.inside c.requires.some c.requires.room (search rules)
    (search rules) (search rules) (search rules) (search rules) c.change.ensures.set

use Rattle.std.proofs.Common.{rules}
use Rattle.lfs_segments.proofs.Steps.{pads_of}
use Rattle.lfs_segments.proofs.usage.Usage.pad.Goals as goal

pub returns : goal.returns
returns c = pads_of c.padded-state.result c.change.ensures.table c.requires.inside c.requires.begun (search rules) (search rules)
    (search rules) (search rules) (search rules) c.change.ensures.set

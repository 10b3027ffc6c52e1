use Rattle.std.proofs.Common.{rules}
use Rattle.lfs_segments.proofs.Steps.{notes_of}
use Rattle.lfs_segments.proofs.usage.Usage.note.Goals as goal

pub returns : goal.returns
returns c = notes_of c.noted-state.result c.change.ensures.table c.requires.inside c.requires.begun (search rules) (search rules)
    (search rules) (search rules) (search rules) c.change.ensures.set

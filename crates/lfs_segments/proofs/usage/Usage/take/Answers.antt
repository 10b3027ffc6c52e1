use Rattle.std.proofs.Common.{Some, ◌∙◌, ap}
use Rattle.lfs_segments.specs.Table.{UsageTable}
use Rattle.lfs_segments.proofs.Steps.{takes_of}
use Rattle.lfs_segments.proofs.usage.Usage.take.Goals as goal

pub returns : goal.returns
returns c = takes_of c.put.ensures.table c.requires.inside c.requires.clean
    (c.set_last.ensures ∙ ap (λ (t : UsageTable). record t { last = Some c.args.segment }) c.put.ensures.put)

use Rattle.lfs_verify.proofs.Sectors.{counted_by_marks}
use Rattle.lfs_verify.proofs.counts.stage_counts.Goals as goal

pub returns : goal.returns
returns c = λ v w bounded table.
    let law = counted_by_marks v _ _ w bounded table in
    let is = c.are_counts.ensures in
    (λ on. law.1 (is.0 on), λ counted. is.1 (law.0 counted))

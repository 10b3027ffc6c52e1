use Rattle.std.proofs.Common.{arith}
use Rattle.std.proofs.lemmas.Bool.{leb-true, le-leb}
use Rattle.lfs_verify.proofs.CleanSteps.{enough_clean}
use Rattle.lfs_verify.proofs.clean.stage_clean.Goals as goal

pub returns : goal.returns
returns c = λ v table.
    let law = enough_clean v table c.count_clean.ensures.count in
    let e = c.div_ceil.ensures in (
      λ on. law.0 (omega (arith, e, leb-true c.div_ceil.result c.count_clean.result on)),
      λ enough.
          le-leb c.div_ceil.result c.count_clean.result (omega (arith, e, law.1 enough)),
    )

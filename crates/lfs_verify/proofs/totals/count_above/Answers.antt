use Rattle.std.proofs.Common.{sym, arith}
use Rattle.lfs_verify.proofs.Occurrences.{above_start, above_on, above_off}
use Rattle.lfs_verify.proofs.totals.count_above.Goals as goal
use Rattle.lfs_verify.proofs.totals.count_above.Goals.{then-marks-sector, else-marks-sector}

pub loop-sector-init : goal.loop-sector-init
loop-sector-init c = record { few = omega arith; so_far = sym (above_start _ _) }

pub loop-sector-preserved : goal.loop-sector-preserved
loop-sector-preserved c = elim c.if-marks-sector.branch [
  | then-marks-sector w ↦ omega (arith, above_on c.args.marks.now c.args.mark c.loop-sector.sector (omega arith))
  | else-marks-sector w ↦ omega (arith, above_off c.args.marks.now c.args.mark c.loop-sector.sector (omega arith))
]

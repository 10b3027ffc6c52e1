use Rattle.std.proofs.Common.{sym, arith}
use Rattle.lfs_verify.proofs.Sectors.{marked_none, marked_on, marked_off}
use Rattle.lfs_verify.proofs.counts.count_marked.Goals as goal
use Rattle.lfs_verify.proofs.counts.count_marked.Goals.{then-marks-segment-ne0, else-marks-segment-ne0}

pub loop-place-init : goal.loop-place-init
loop-place-init c = record { few = omega arith; so_far = sym (marked_none _ _) }

pub loop-place-preserved : goal.loop-place-preserved
loop-place-preserved c = elim c.if-marks-segment-ne0.branch [
  | then-marks-segment-ne0 w ↦ omega (arith, marked_on c.args.marks.now c.args.segment c.loop-place.place (omega arith))
  | else-marks-segment-ne0 w ↦ omega (arith, marked_off c.args.marks.now c.args.segment c.loop-place.place (omega arith))
]

use Rattle.std.proofs.Common.{sym, arith}
use Rattle.lfs_verify.proofs.CleanSteps.{clean_none, clean_on, clean_off}
use Rattle.lfs_verify.proofs.clean.count_clean.Goals as goal
use Rattle.lfs_verify.proofs.clean.count_clean.Goals.{then-used-segment-eq0, else-used-segment-eq0}

pub loop-segment-init : goal.loop-segment-init
loop-segment-init c = record { few = omega arith; so_far = sym (clean_none _) }

pub loop-segment-preserved : goal.loop-segment-preserved
loop-segment-preserved c = elim c.if-used-segment-eq0.branch [
  | then-used-segment-eq0 w ↦ omega (arith, clean_on c.args.used.now c.loop-segment.segment (omega arith))
  | else-used-segment-eq0 w ↦ omega (arith, clean_off c.args.used.now c.loop-segment.segment (λ none. omega arith))
]

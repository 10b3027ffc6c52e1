use Rattle.std.proofs.Common.{arith}
use Rattle.lfs_queue.proofs.carrying.are_within.Goals as goal

pub loop-order-init : goal.loop-order-init
loop-order-init c = λ i lt. absurd (omega (arith, lt))

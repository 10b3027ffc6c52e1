use Rattle.std.proofs.Common.{arith}
use Rattle.lfs_tree.proofs.Climbing.{root_marked}
use Rattle.lfs_tree.proofs.marks.Marks.new.Goals as goal

pub returns : goal.returns
returns c = λ up.
    (root_marked up c.in_ok-marks.marks.items (omega (arith, c.in_ok-marks.ensures.len)) c.in_ok-marks.ensures.empty)

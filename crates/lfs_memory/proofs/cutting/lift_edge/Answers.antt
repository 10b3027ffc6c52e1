use Rattle.std.proofs.Common.{rules}
use Rattle.lfs_model.specs.Entry.{Double}
use Rattle.lfs_memory.proofs.Lifted.{ends_other}
use Rattle.lfs_memory.proofs.Going.{ok_then}
use Rattle.lfs_memory.proofs.Lifted.{ends_then, prepares_then}
use Rattle.lfs_memory.proofs.CutEdges.{low_edge, high_edge}
use Rattle.lfs_memory.proofs.cutting.lift_edge.Goals as goal

pub returns-then-first-clause-edge : goal.returns-then-first-clause-edge
returns-then-first-clause-edge g c =
    ok_then c.lift_part.result _ _ (low_edge _ _ _ c.if-first.true) c.lift_part.ensures.leaf

pub returns-in-Ok-true-clause-prepares : goal.returns-in-Ok-true-clause-prepares
returns-in-Ok-true-clause-prepares g c =
    prepares_then (g.met.D.SectorDevice.lawful _) c.in-Ok-true.ensures.prepares c.lift_part-in-Ok-true.ensures.prepares

pub returns-in-Ok-true-clause-edge : goal.returns-in-Ok-true-clause-edge
returns-in-Ok-true-clause-edge g c =
    let root = rw c.double.ensures at (c.in-Ok-true.ensures.inside (search rules)) in
    ok_then c.lift_part-in-Ok-true.result _ _ (high_edge c.lift_part-in-Ok-true.new.memory c.args.number c.args.first
    (c.lift_part-in-Ok-true.ensures.prepares.stay (Double c.args.number) root))
    c.lift_part-in-Ok-true.ensures.leaf

pub returns-in-Ok-true-clause-ends : goal.returns-in-Ok-true-clause-ends
returns-in-Ok-true-clause-ends g c =
    ends_then 1 c.in-Ok-true.ensures.prepares c.in-Ok-true.ensures.ends.no_failure c.lift_part-in-Ok-true.ensures.prepares.looks
    c.lift_part-in-Ok-true.ensures.ends

pub returns-in-Err-clause-ends : goal.returns-in-Err-clause-ends
returns-in-Err-clause-ends g c = ends_other c.in-Err.ensures.ends

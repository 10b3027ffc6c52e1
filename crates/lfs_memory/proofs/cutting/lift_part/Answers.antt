use Rattle.lfs_memory.proofs.Lifted.{ends_passed}
use Rattle.lfs_memory.proofs.CutEdges.{above_cut_leaf, cut_leaf_ready}
use Rattle.lfs_memory.proofs.cutting.lift_part.Goals as goal

pub lift_child-requires-clause-above : goal.lift_child-requires-clause-above
lift_child-requires-clause-above g c =
    above_cut_leaf c.args.memory.now _ c.leaf-leaf.ensures c.if-first-le-DIRECT_BLOCKS.false c.if-first-eq0.false c.requires.above

pub returns-in_err-lift_child-clause-ends : goal.returns-in_err-lift_child-clause-ends
returns-in_err-lift_child-clause-ends g c = ends_passed c.in_err-lift_child.ensures.ends c.from_residual.ensures

pub returns-clause-leaf : goal.returns-clause-leaf
returns-clause-leaf g c =
    cut_leaf_ready c.lift_child.new.memory c.args.first _ c.leaf-leaf.ensures _ c.in_ok-lift_child.ensures.inside
    c.in_ok-lift_child.ensures.none

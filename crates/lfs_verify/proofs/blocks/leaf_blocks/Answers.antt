use Rattle.std.proofs.Common.{arith}
use Rattle.lfs_verify.proofs.Takes.{reads_first, reads_then, walked_as, goes_true, goes_false}
use Rattle.lfs_verify.proofs.LeafSteps.{leaf_goes}
use Rattle.lfs_verify.proofs.Keeping.{keeps_none, keeps_then}
use Rattle.lfs_verify.proofs.blocks.leaf_blocks.Goals as goal

pub loop-leaf-init : goal.loop-leaf-init
loop-leaf-init g c = record {
  keeps = keeps_none (g.met.D.SectorDevice.lawful _);
  walked = λ d k reads is w. walked_as (omega arith) w;
}

pub returns-then-not-branch-clause-goes : goal.returns-then-not-branch-clause-goes
returns-then-not-branch-clause-goes g c = λ d k reads is w.
    let here = c.loop-leaf.invariant in
    let step = c.in_ok-take_pointers.ensures in
    goes_false _ _ c.if-not-branch.true (leaf_goes d k _ c.requires.file is _ (omega arith) _ _
    c.word_at-address.ensures _ (step.takes d (reads_then reads here.keeps.looks)))
    (here.walked d k (reads_first reads step.keeps.looks) is w)

pub loop-leaf-preserved : goal.loop-leaf-preserved
loop-leaf-preserved g c =
    let here = c.loop-leaf.invariant in
    let step = c.in_ok-take_pointers.ensures in
    record {
      keeps = keeps_then here.keeps step.keeps;
      walked = λ d k reads is w.
          goes_true _ c.if-not-branch.false (leaf_goes d k _ c.requires.file is _ (omega arith) _ _
          c.word_at-address.ensures _ (step.takes d (reads_then reads here.keeps.looks)))
          (here.walked d k (reads_first reads step.keeps.looks) is w);
    }

pub returns-clause-goes : goal.returns-clause-goes
returns-clause-goes g c = λ d k reads is w. walked_as (omega arith) (c.loop-leaf.invariant.walked d k reads is w)

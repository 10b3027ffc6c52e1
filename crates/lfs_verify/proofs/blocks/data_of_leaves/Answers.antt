use Rattle.std.proofs.Common.{arith}
use Rattle.lfs_verify.proofs.Takes.{reads_first, reads_then, goes_true, goes_false, walked_as}
use Rattle.lfs_verify.proofs.BlockSteps.{under_at}
use Rattle.lfs_verify.proofs.Keeping.{keeps_none, keeps_then}
use Rattle.lfs_verify.proofs.blocks.data_of_leaves.Goals as goal

pub loop-place-init : goal.loop-place-init
loop-place-init g c = record {
  keeps = keeps_none (g.met.D.SectorDevice.lawful _);
  walked = λ d k reads is sized w. walked_as (omega arith) w;
}

pub returns-then-not-branch-clause-goes : goal.returns-then-not-branch-clause-goes
returns-then-not-branch-clause-goes g c = λ d k reads is sized w.
    let here = c.loop-place.invariant in
    let step = c.in_ok-data_of_leaf.ensures in
    let at = under_at d k _ _ is _ c.word_at-address.ensures in
    goes_false _ _ c.if-not-branch.true (step.goes d k (reads_then reads here.keeps.looks) at sized)
    (here.walked d k (reads_first reads step.keeps.looks) is sized w)

pub loop-place-preserved : goal.loop-place-preserved
loop-place-preserved g c =
    let here = c.loop-place.invariant in
    let step = c.in_ok-data_of_leaf.ensures in
    record {
      keeps = keeps_then here.keeps step.keeps;
      walked = λ d k reads is sized w.
          let at = under_at d k _ _ is _ c.word_at-address.ensures in
          goes_true _ c.if-not-branch.false (step.goes d k (reads_then reads here.keeps.looks) at sized)
          (here.walked d k (reads_first reads step.keeps.looks) is sized w);
    }

pub returns-clause-goes : goal.returns-clause-goes
returns-clause-goes g c = λ d k reads is sized w. walked_as (omega arith) (c.loop-place.invariant.walked d k reads is sized w)

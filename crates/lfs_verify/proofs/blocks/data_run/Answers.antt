use Rattle.std.proofs.Common.{◌∙◌, arith}
use Rattle.lfs_verify.proofs.Takes.{reads_first, reads_then, walked_as, goes_true, goes_false}
use Rattle.lfs_verify.proofs.DataSteps.{data_goes}
use Rattle.lfs_verify.proofs.Keeping.{keeps_none, keeps_then}
use Rattle.lfs_verify.proofs.blocks.data_run.Goals as goal

pub loop-place-init : goal.loop-place-init
loop-place-init g c = record {
  keeps = keeps_none (g.met.D.SectorDevice.lawful _);
  walked = λ d k reads is sized w. walked_as (omega arith) w;
}

pub returns-then-not-branch-clause-goes : goal.returns-then-not-branch-clause-goes
returns-then-not-branch-clause-goes g c = λ d k reads is sized w.
    let here = c.loop-place.invariant in
    let step = c.in_ok-take_data.ensures in
    goes_false _ _ c.if-not-branch.true (data_goes d k _ _ _ c.requires.file (omega arith) sized _ _
    (c.word_at-address.ensures ∙ is _ (omega arith)) _ (step.takes d (reads_then reads here.keeps.looks)))
    (here.walked d k (reads_first reads step.keeps.looks) is sized w)

pub loop-place-preserved : goal.loop-place-preserved
loop-place-preserved g c =
    let here = c.loop-place.invariant in
    let step = c.in_ok-take_data.ensures in
    record {
      keeps = keeps_then here.keeps step.keeps;
      walked = λ d k reads is sized w.
          goes_true _ c.if-not-branch.false (data_goes d k _ _ _ c.requires.file (omega arith) sized
          _ _ (c.word_at-address.ensures ∙ is _ (omega arith)) _ (step.takes d (reads_then reads here.keeps.looks)))
          (here.walked d k (reads_first reads step.keeps.looks) is sized w);
    }

pub returns-clause-goes : goal.returns-clause-goes
returns-clause-goes g c = λ d k reads is sized w. walked_as (omega arith) (c.loop-place.invariant.walked d k reads is sized w)

use Rattle.lfs_verify.proofs.Tests.{fails_by, fails_as}
use Rattle.std.proofs.Common.{rules, arith, below_more}
use Rattle.lfs_verify.proofs.LabelSteps.{all_agree, each_agrees}
use Rattle.lfs_verify.proofs.labels.stage_labels.Goals as goal

pub returns-then-not-agrees : goal.returns-then-not-agrees
returns-then-not-agrees c = λ v has w bounded. fails_as (λ named. fails_by c.if-not-agrees.true c.agrees.ensures
    (each_agrees v has w bounded named _ c.loop-sector-test.true))

pub loop-sector-preserved : goal.loop-sector-preserved
loop-sector-preserved c = below_more _ _ c.loop-sector.invariant (c.agrees.ensures.0 c.if-not-agrees.false)

pub returns : goal.returns
returns c = λ v has w bounded. (
  λ on. all_agree v has w bounded (λ i lt. c.loop-sector.invariant i (omega arith)),
  λ named. search rules,
)

use Rattle.lfs_verify.proofs.Tests.{fails_by, fails_as}
use Rattle.std.proofs.Common.{rules, ◌+◌, ◌*◌, arith, below_more}
use Rattle.lfs_verify.proofs.Takes.{reads_first, reads_then}
use Rattle.lfs_verify.proofs.RowSteps.{rows_of, no_rows, too_many}
use Rattle.lfs_verify.proofs.LabelSteps.{labels_stay, labels_there}
use Rattle.lfs_verify.proofs.Keeping.{keeps_none, keeps_then}
use Rattle.lfs_verify.proofs.rows.stage_rows.Goals as goal

pub loop-segment-init : goal.loop-segment-init
loop-segment-init g c = record {
  keeps = keeps_none (g.met.D.SectorDevice.lawful _);
  empty = λ i le. c.requires.empty i;
  labels = λ d k reads table s lt. absurd (omega (arith, lt));
  rows = λ d reads s lt. absurd (omega arith);
}

pub returns-then-count-gt-SEGMENT_SECTORS-clause-rows : goal.returns-then-count-gt-SEGMENT_SECTORS-clause-rows
returns-then-count-gt-SEGMENT_SECTORS-clause-rows g c =
    λ d k reads table. absurd (too_many table c.loop-segment.segment (omega arith) (omega arith))

pub returns-then-not-branch-clause-rows : goal.returns-then-not-branch-clause-rows
returns-then-not-branch-clause-rows g c = λ d k reads table.
    fails_as (no_rows d k table _ (omega arith)
    (fails_by c.if-not-branch.true (c.in_ok-label_row.ensures.row d (reads_then reads c.loop-segment.invariant.keeps.looks))))

pub loop-segment-preserved : goal.loop-segment-preserved
loop-segment-preserved g c =
    let here = c.loop-segment.invariant in
    let step = c.in_ok-label_row.ensures in
    record {
      keeps = keeps_then here.keeps step.keeps;
      empty = λ i le. step.behind i (omega (arith, le));
      labels = λ d k reads table. below_more _ _
          (λ s before. labels_stay _ s
          (λ o small. step.before (2 + 64 * s + o) (omega (arith, small, before)))
          (here.labels d k (reads_first reads step.keeps.looks) table s before))
          (labels_there d k table _ (omega arith)
          (step.labels c.if-not-branch.false d (reads_then reads here.keeps.looks)));
      rows = λ d reads. below_more _ _ (here.rows d (reads_first reads step.keeps.looks))
          ((step.row d (reads_then reads here.keeps.looks)).0 c.if-not-branch.false);
    }

pub returns-clause-rows : goal.returns-clause-rows
returns-clause-rows g c = λ d k reads table.
    (λ on. rows_of d k table (λ s lt. c.loop-segment.invariant.rows d reads s (omega arith)), λ rows. search rules)

pub returns-clause-labels : goal.returns-clause-labels
returns-clause-labels g c = λ is d k reads table.
    let here = c.loop-segment.invariant in
    let n = table.size in
    record {
      size = omega (arith, here.keeps.len, c.requires.labelled, n);
      each = λ s lt. here.labels d k reads table s (omega (arith, lt, n));
    }

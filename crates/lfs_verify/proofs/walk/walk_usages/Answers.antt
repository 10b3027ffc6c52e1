use Rattle.std.proofs.Common.{◌∙◌}
use Rattle.lfs_model.specs.Damage.{stage}
use Rattle.lfs_model.specs.Reach.{view}
use Rattle.lfs_verify.proofs.Takes.{reads_first, reads_then}
use Rattle.lfs_verify.proofs.CodeSteps.{walk_pass, walk_fails, look_pass, look_fails, used_says, live_says}
use Rattle.lfs_verify.proofs.walk.walk_usages.Goals as goal

pub returns-in-Ok-false-clause-damaged : goal.returns-in-Ok-false-clause-damaged
unfolding stage
returns-in-Ok-false-clause-damaged g c = λ d reads passed code.
    walk_fails passed _ _ c.in-Ok-false.field-0-test (c.in-Ok-false.ensures.goes d reads)

pub returns-in-Ok-false-stage_rows-clause-damaged : goal.returns-in-Ok-false-stage_rows-clause-damaged
unfolding stage
returns-in-Ok-false-stage_rows-clause-damaged g c = λ d reads passed code.
    let first = c.in-Ok-true.ensures in
    let on = c.in-Ok-true.field-0-test in
    let reads1 = reads_first reads c.stage_rows.ensures.keeps.looks in
    let usages = first.holds on d reads1 passed.bounded passed.walked in
    let used = used_says _ _ usages (c.stage_usages.ensures.lengths.used ∙ c.requires.used) (first.says on d reads1) in
    look_fails (walk_pass passed on (first.goes d reads1) (λ w bounded. usages)) c.in-Ok-false-stage_rows.field-0-test
    (c.in-Ok-false-stage_rows.ensures.rows d _ (reads_then reads c.stage_usages.ensures.keeps.looks) used)

pub returns-in-Ok-true-stage_rows-clause-tables : goal.returns-in-Ok-true-stage_rows-clause-tables
returns-in-Ok-true-stage_rows-clause-tables g c = λ d reads passed.
    let first = c.in-Ok-true.ensures in
    let on = c.in-Ok-true.field-0-test in
    let reads1 = reads_first reads c.stage_rows.ensures.keeps.looks in
    let says = first.says on d reads1 in (
      used_says _ _ (first.holds on d reads1 passed.bounded passed.walked) (c.stage_usages.ensures.lengths.used ∙ c.requires.used) says,
      live_says (view d _) _ _ (c.stage_usages.ensures.lengths.live ∙ c.requires.live) says,
    )

pub returns-in-Ok-true-stage_rows-clause-holds : goal.returns-in-Ok-true-stage_rows-clause-holds
unfolding stage
returns-in-Ok-true-stage_rows-clause-holds g c = λ d reads passed.
    let first = c.in-Ok-true.ensures in
    let on = c.in-Ok-true.field-0-test in
    let reads1 = reads_first reads c.stage_rows.ensures.keeps.looks in
    look_pass (walk_pass passed on (first.goes d reads1) (λ w bounded. first.holds on d reads1 bounded passed.walked))
    c.in-Ok-true-stage_rows.field-0-test (c.in-Ok-true-stage_rows.ensures.rows d _
    (reads_then reads c.stage_usages.ensures.keeps.looks) (returns-in-Ok-true-stage_rows-clause-tables g c d reads passed).0)

pub returns-in-Ok-true-stage_rows-clause-labels : goal.returns-in-Ok-true-stage_rows-clause-labels
returns-in-Ok-true-stage_rows-clause-labels g c = λ d reads passed.
    c.in-Ok-true-stage_rows.ensures.labels c.in-Ok-true-stage_rows.field-0-test d _
    (reads_then reads c.stage_usages.ensures.keeps.looks) (returns-in-Ok-true-stage_rows-clause-tables g c d reads passed).0

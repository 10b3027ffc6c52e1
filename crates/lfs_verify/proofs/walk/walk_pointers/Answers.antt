use Rattle.lfs_model.specs.Damage.{stage}
use Rattle.lfs_verify.proofs.Steps.{roots_of, leaves_of}
use Rattle.lfs_verify.proofs.CodeSteps.{passed_of, walk_pass, walk_fails}
use Rattle.lfs_verify.proofs.Takes.{reads_first, reads_then}
use Rattle.lfs_verify.proofs.walk.walk_pointers.Goals as goal

pub returns-in-Ok-true-stage_files-clause-holds : goal.returns-in-Ok-true-stage_files-clause-holds
unfolding stage
returns-in-Ok-true-stage_files-clause-holds g c = λ d k reads bounded lists keeps below w.
    let five = walk_pass (passed_of bounded below w) c.in-Ok-true.field-0-test
    (c.in-Ok-true.ensures.goes d k (reads_first reads c.stage_files-2.ensures.keeps.looks) lists keeps) (roots_of _ _) in
    let six = walk_pass five c.in-Ok-true-stage_files.field-0-test
    (c.in-Ok-true-stage_files.ensures.goes d k (reads_then reads c.stage_files.ensures.keeps.looks) lists keeps) (leaves_of _ _) in
    (six.below, six.walked)

pub returns-in-Ok-false-clause-damaged : goal.returns-in-Ok-false-clause-damaged
unfolding stage
returns-in-Ok-false-clause-damaged g c = λ d k reads bounded lists keeps below w code.
    walk_fails (passed_of bounded below w) _ _ c.in-Ok-false.field-0-test (c.in-Ok-false.ensures.goes d k reads lists keeps)

pub returns-in-Ok-false-stage_files-clause-damaged : goal.returns-in-Ok-false-stage_files-clause-damaged
unfolding stage
returns-in-Ok-false-stage_files-clause-damaged g c = λ d k reads bounded lists keeps below w code.
    let five = walk_pass (passed_of bounded below w) c.in-Ok-true.field-0-test
    (c.in-Ok-true.ensures.goes d k (reads_first reads c.stage_files-2.ensures.keeps.looks) lists keeps) (roots_of _ _) in
    walk_fails five _ _ c.in-Ok-false-stage_files.field-0-test
    (c.in-Ok-false-stage_files.ensures.goes d k (reads_then reads c.stage_files.ensures.keeps.looks) lists keeps)

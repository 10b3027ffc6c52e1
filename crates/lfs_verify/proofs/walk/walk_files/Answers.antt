use Rattle.lfs_model.specs.Damage.{stage}
use Rattle.lfs_verify.proofs.Steps.{blocks_of}
use Rattle.lfs_verify.proofs.Takes.{reads_first, reads_then}
use Rattle.lfs_verify.proofs.CodeSteps.{walk_pass, walk_fails, passed_of}
use Rattle.lfs_verify.proofs.walk.walk_files.Goals as goal

pub returns-in-Err-clause-damaged : goal.returns-in-Err-clause-damaged
returns-in-Err-clause-damaged g c = λ d k reads lists keeps passed code is.
    c.in-Err.ensures.damaged d k reads passed.bounded lists keeps passed.below passed.walked code is

pub returns-in-Ok-false-clause-damaged : goal.returns-in-Ok-false-clause-damaged
unfolding stage
returns-in-Ok-false-clause-damaged g c = λ d k reads lists keeps passed code.
    let pointers = c.in-Ok.ensures.holds d k (reads_first reads c.stage_data.ensures.keeps.looks) passed.bounded lists keeps
    passed.below passed.walked in
    walk_fails (passed_of passed.bounded pointers.0 pointers.1) _ _ c.in-Ok-false.field-0-test
    (c.in-Ok-false.ensures.goes d k (reads_then reads c.walk_pointers.ensures.keeps.looks) lists keeps)

pub returns-in-Ok-true-clause-holds : goal.returns-in-Ok-true-clause-holds
unfolding stage
returns-in-Ok-true-clause-holds g c = λ d k reads lists keeps passed.
    let pointers = c.in-Ok.ensures.holds d k (reads_first reads c.stage_data.ensures.keeps.looks) passed.bounded lists keeps
    passed.below passed.walked in
    walk_pass (passed_of passed.bounded pointers.0 pointers.1) c.in-Ok-true.field-0-test
    (c.in-Ok-true.ensures.goes d k (reads_then reads c.walk_pointers.ensures.keeps.looks) lists keeps) (blocks_of _ _)

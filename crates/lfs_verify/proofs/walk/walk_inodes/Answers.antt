use Rattle.std.proofs.Common.{sym}
use Rattle.lfs_model.specs.Damage.{stage}
use Rattle.lfs_verify.proofs.Takes.{reads_first, reads_then}
use Rattle.lfs_verify.proofs.CodeSteps.{walk_pass, walk_fails}
use Rattle.lfs_verify.proofs.walk.walk_inodes.Goals as goal

pub returns-in-Ok-false-clause-damaged : goal.returns-in-Ok-false-clause-damaged
unfolding stage
returns-in-Ok-false-clause-damaged g c = λ d reads passed code.
    walk_fails passed _ _ c.in-Ok-false.field-0-test (c.in-Ok-false.ensures.goes d reads)

pub returns-in-Ok-false-stage_inodes-clause-damaged : goal.returns-in-Ok-false-stage_inodes-clause-damaged
unfolding stage
returns-in-Ok-false-stage_inodes-clause-damaged g c = λ d reads passed code.
    let first = c.in-Ok-true.ensures in
    let on = c.in-Ok-true.field-0-test in
    let reads1 = reads_first reads c.stage_inodes.ensures.keeps.looks in
    let one = walk_pass passed on (first.goes d reads1) (λ w bounded. first.holds on d reads1 bounded passed.walked) in
    walk_fails one _ _ c.in-Ok-false-stage_inodes.field-0-test (c.in-Ok-false-stage_inodes.ensures.goes d _
    (reads_then reads c.stage_maps.ensures.keeps.looks) (sym c.version_of-version.ensures) (first.lists on d reads1))

pub returns-in-Ok-true-stage_inodes-clause-lists : goal.returns-in-Ok-true-stage_inodes-clause-lists
returns-in-Ok-true-stage_inodes-clause-lists g c = λ d reads.
    c.in-Ok-true.ensures.lists c.in-Ok-true.field-0-test d (reads_first reads c.stage_inodes.ensures.keeps.looks)

pub returns-in-Ok-true-stage_inodes-clause-holds : goal.returns-in-Ok-true-stage_inodes-clause-holds
unfolding stage
returns-in-Ok-true-stage_inodes-clause-holds g c = λ d reads passed.
    let first = c.in-Ok-true.ensures in
    let on = c.in-Ok-true.field-0-test in
    let reads1 = reads_first reads c.stage_inodes.ensures.keeps.looks in
    let reads2 = reads_then reads c.stage_maps.ensures.keeps.looks in
    let version = sym c.version_of-version.ensures in
    let lists = returns-in-Ok-true-stage_inodes-clause-lists g c d reads in
    let second = c.in-Ok-true-stage_inodes.ensures in
    let one = walk_pass passed on (first.goes d reads1) (λ w bounded. first.holds on d reads1 bounded passed.walked) in
    walk_pass one c.in-Ok-true-stage_inodes.field-0-test (second.goes d _ reads2 version lists)
    (λ w bounded. second.holds c.in-Ok-true-stage_inodes.field-0-test d _ reads2 version lists bounded one.walked)

pub returns-in-Ok-true-stage_inodes-clause-kept : goal.returns-in-Ok-true-stage_inodes-clause-kept
returns-in-Ok-true-stage_inodes-clause-kept g c = λ d reads.
    c.in-Ok-true-stage_inodes.ensures.kept c.in-Ok-true-stage_inodes.field-0-test d (reads_then reads c.stage_maps.ensures.keeps.looks)

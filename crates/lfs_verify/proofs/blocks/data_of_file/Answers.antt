use Rattle.lfs_verify.proofs.RootSteps.{root_at, first_leaf_at}
use Rattle.std.proofs.Common.{arith}
use Rattle.lfs_verify.proofs.Takes.{reads_first, reads_then, goes_true, goes_false, walked_as, reads_thrice}
use Rattle.lfs_verify.proofs.BlockSteps.{size_there}
use Rattle.lfs_verify.proofs.blocks.data_of_file.Goals as goal

pub returns-then-not-branch-clause-goes : goal.returns-then-not-branch-clause-goes
returns-then-not-branch-clause-goes g c = λ d k reads inode.
    goes_false _ _ c.if-not-branch.true (c.in_ok-data_of_inode.ensures.goes d k reads inode)

pub returns-then-not-branch-2-clause-goes : goal.returns-then-not-branch-2-clause-goes
returns-then-not-branch-2-clause-goes g c = λ d k reads inode w.
    goes_false _ _ c.if-not-branch-2.true (c.in_ok-data_of_leaf.ensures.goes d k (reads_then reads c.data_of_inode.ensures.keeps.looks)
    (first_leaf_at d k _ inode c.word_at-single.ensures)
    (size_there d k _ inode c.size_of-size.ensures))
    (goes_true _ c.if-not-branch.false
    (c.in_ok-data_of_inode.ensures.goes d k (reads_first reads c.data_of_leaf.ensures.keeps.looks) inode) w)

pub returns-then-not-branch-3-clause-goes : goal.returns-then-not-branch-3-clause-goes
returns-then-not-branch-3-clause-goes g c = λ d k reads inode w.
    let r = reads_thrice reads c.data_of_inode.ensures.keeps.looks c.data_of_leaf.ensures.keeps.looks
    c.data_of_double.ensures.keeps.looks in
    goes_false _ _ c.if-not-branch-3.true (c.in_ok-data_of_double.ensures.goes d k r.2
    (root_at d k _ inode c.word_at-double.ensures)
    (size_there d k _ inode c.size_of-size.ensures))
    (goes_true _ c.if-not-branch-2.false (c.in_ok-data_of_leaf.ensures.goes d k r.1
    (first_leaf_at d k _ inode c.word_at-single.ensures)
    (size_there d k _ inode c.size_of-size.ensures))
    (goes_true _ c.if-not-branch.false (c.in_ok-data_of_inode.ensures.goes d k r.0 inode) w))

pub returns-clause-goes : goal.returns-clause-goes
returns-clause-goes g c = λ d k reads inode w.
    let r = reads_thrice reads c.data_of_inode.ensures.keeps.looks c.data_of_leaf.ensures.keeps.looks
    c.data_of_double.ensures.keeps.looks in
    walked_as (omega arith) (goes_true _ c.if-not-branch-3.false (c.in_ok-data_of_double.ensures.goes d k r.2
    (root_at d k _ inode c.word_at-double.ensures)
    (size_there d k _ inode c.size_of-size.ensures))
    (goes_true _ c.if-not-branch-2.false (c.in_ok-data_of_leaf.ensures.goes d k r.1
    (first_leaf_at d k _ inode c.word_at-single.ensures)
    (size_there d k _ inode c.size_of-size.ensures))
    (goes_true _ c.if-not-branch.false (c.in_ok-data_of_inode.ensures.goes d k r.0 inode) w)))

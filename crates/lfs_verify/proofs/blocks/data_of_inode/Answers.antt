use Rattle.std.proofs.Common.{arith}
use Rattle.lfs_verify.proofs.Takes.{goes_true, goes_false, walked_as}
use Rattle.lfs_verify.proofs.BlockSteps.{direct_words, size_there}
use Rattle.lfs_verify.proofs.blocks.data_of_inode.Goals as goal

pub returns-then-not-branch-clause-goes : goal.returns-then-not-branch-clause-goes
returns-then-not-branch-clause-goes g c = λ d k reads is w.
    goes_false _ _ c.if-not-branch.true (c.in_ok-data_run.ensures.goes d k reads (direct_words d k _ is)
    (size_there d k _ is c.size_of-size.ensures)) (walked_as (omega arith) w)

pub returns-clause-goes : goal.returns-clause-goes
returns-clause-goes g c = λ d k reads is w.
    walked_as (omega arith) (goes_true _ c.if-not-branch.false (c.in_ok-data_run.ensures.goes d k reads (direct_words d k _ is)
    (size_there d k _ is c.size_of-size.ensures)) (walked_as (omega arith) w))

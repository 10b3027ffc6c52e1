use Rattle.std.proofs.Common.{arith}
use Rattle.lfs_model.specs.Content.{block}
use Rattle.lfs_model.specs.Entry.{IsInode}
use Rattle.lfs_verify.proofs.Takes.{block_taken, no_inode, takes_as, takes_none}
use Rattle.lfs_verify.proofs.inodes.take_inode.Goals as goal

pub returns-then-not-branch-clause-takes : goal.returns-then-not-branch-clause-takes
returns-then-not-branch-clause-takes g c = λ k reads.
    takes_none k _ _ _ _ _ (c.in_ok-take_block.ensures.takes k reads) (IsInode _ _) c.if-not-branch.true
    (omega arith)
    (no_inode _ _ (block k _))

pub returns-clause-takes : goal.returns-clause-takes
returns-clause-takes g c = λ k reads.
    takes_as k _ _ _ _ _ (c.in_ok-take_block.ensures.takes k reads) (IsInode _ _) c.if-not-branch.false (omega arith)
    c.is_inode.result c.is_inode.ensures

pub returns-clause-read : goal.returns-clause-read
returns-clause-read g c = λ is some k reads.
    (block_taken k _ _ _ _ _ (c.in_ok-take_block.ensures.takes k reads) c.if-not-branch.false).1

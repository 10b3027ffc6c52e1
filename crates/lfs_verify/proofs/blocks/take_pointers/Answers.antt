use Rattle.std.proofs.Common.{arith}
use Rattle.lfs_verify.specs.Take.{SomeWord}
use Rattle.lfs_verify.proofs.Takes.{no_word, takes_as, takes_none}
use Rattle.lfs_verify.proofs.blocks.take_pointers.Goals as goal

pub returns-then-not-branch-clause-takes : goal.returns-then-not-branch-clause-takes
returns-then-not-branch-clause-takes g c = λ k reads.
    takes_none k _ _ _ _ _ (c.in_ok-take_block.ensures.takes k reads) SomeWord c.if-not-branch.true (omega arith)
    no_word

pub returns-clause-takes : goal.returns-clause-takes
returns-clause-takes g c = λ k reads.
    takes_as k _ _ _ _ _ (c.in_ok-take_block.ensures.takes k reads) SomeWord c.if-not-branch.false (omega arith)
    c.has_word.result c.has_word.ensures

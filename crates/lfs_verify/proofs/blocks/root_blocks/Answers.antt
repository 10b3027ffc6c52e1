use Rattle.lfs_verify.proofs.Takes.{reads_first, reads_then, goes_true, goes_false}
use Rattle.lfs_verify.proofs.RootSteps.{single_goes, double_goes}
use Rattle.lfs_verify.proofs.blocks.root_blocks.Goals as goal

pub returns-then-not-branch-clause-goes : goal.returns-then-not-branch-clause-goes
returns-then-not-branch-clause-goes g c = λ d k reads is.
    goes_false _ _ c.if-not-branch.true
    (single_goes d k _ c.requires.file is _ _ _ c.word_at-single.ensures (c.in_ok-take_pointers.ensures.takes d reads))

pub returns-then-not-branch-2-clause-goes : goal.returns-then-not-branch-2-clause-goes
returns-then-not-branch-2-clause-goes g c = λ d k reads is w.
    goes_false _ _ c.if-not-branch-2.true (double_goes d k _ c.requires.file is _ _ _ c.word_at-double.ensures
    (c.in_ok-take_pointers-2.ensures.takes d (reads_then reads c.take_pointers.ensures.keeps.looks)))
    (goes_true _ c.if-not-branch.false (single_goes d k _ c.requires.file is _ _ _ c.word_at-single.ensures
    (c.in_ok-take_pointers.ensures.takes d (reads_first reads c.take_pointers-2.ensures.keeps.looks))) w)

pub returns-clause-goes : goal.returns-clause-goes
returns-clause-goes g c = λ d k reads is w.
    goes_true _ c.if-not-branch-2.false (double_goes d k _ c.requires.file is _ _ _ c.word_at-double.ensures
    (c.in_ok-take_pointers-2.ensures.takes d (reads_then reads c.take_pointers.ensures.keeps.looks)))
    (goes_true _ c.if-not-branch.false (single_goes d k _ c.requires.file is _ _ _ c.word_at-single.ensures
    (c.in_ok-take_pointers.ensures.takes d (reads_first reads c.take_pointers-2.ensures.keeps.looks))) w)

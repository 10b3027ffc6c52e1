use Rattle.lfs_model.specs.Entry.{Double}
use Rattle.std.proofs.Common.{sym, ◌∙◌, ap, arith}
use Rattle.lfs_model.specs.Content.{block}
use Rattle.lfs_verify.proofs.Takes.{reads_first, reads_then, read_in, unread, goes_true, goes_false, reached_inside, reached_good, no_word}
use Rattle.lfs_verify.proofs.BlockSteps.{double_passed}
use Rattle.lfs_verify.proofs.blocks.data_of_double.Goals as goal

pub returns-then-address-eq0-clause-goes : goal.returns-then-address-eq0-clause-goes
returns-then-address-eq0-clause-goes g c = λ d k reads is sized w.
    double_passed d k _ c.requires.file (sym is ∙ c.if-address-eq0.true) w

pub returns-then-address-marks-clause-goes : goal.returns-then-address-marks-clause-goes
returns-then-address-marks-clause-goes g c = λ d k reads is sized w blocks.
    omega (arith, reached_inside w (Double c.args.file) (omega arith) c.requires.file is c.if-address-eq0.false)

pub returns-then-not-branch-clause-goes : goal.returns-then-not-branch-clause-goes
returns-then-not-branch-clause-goes g c = λ d k reads is sized w blocks.
    no_word (ap (block d) (sym is) ∙ unread d _ _ (c.in_ok-fetch.ensures.block d reads) c.if-not-branch.true)
    (reached_good w (Double _) (omega arith) c.requires.file is c.if-address-eq0.false)

pub returns-then-not-branch-2-clause-goes : goal.returns-then-not-branch-2-clause-goes
returns-then-not-branch-2-clause-goes g c = λ d k reads is sized w.
    let root = ap (block d) (sym is) ∙ read_in d _ _
    (c.in_ok-fetch.ensures.block d (reads_first reads c.data_of_leaves.ensures.keeps.looks)) c.if-not-branch.false in
    goes_false _ _ c.if-not-branch-2.true
    (c.in_ok-data_of_leaves.ensures.goes d k (reads_then reads c.fetch.ensures.keeps.looks) root sized) w

pub returns-clause-goes : goal.returns-clause-goes
returns-clause-goes g c = λ d k reads is sized w.
    let root = ap (block d) (sym is) ∙ read_in d _ _
    (c.in_ok-fetch.ensures.block d (reads_first reads c.data_of_leaves.ensures.keeps.looks)) c.if-not-branch.false in
    goes_true _ c.if-not-branch-2.false
    (c.in_ok-data_of_leaves.ensures.goes d k (reads_then reads c.fetch.ensures.keeps.looks) root sized) w

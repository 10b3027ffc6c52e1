use Rattle.lfs_model.specs.Content.{block}
use Rattle.lfs_model.specs.Entry.{Leaf}
use Rattle.std.proofs.Common.{sym, ◌∙◌, arith, ap}
use Rattle.lfs_verify.proofs.Takes.{reads_first, reads_then, read_in, unread, goes_true, goes_false, walked_as}
use Rattle.lfs_verify.proofs.Takes.{reached_inside, reached_good, no_word}
use Rattle.lfs_verify.proofs.BlockSteps.{leaf_passed, leaf_words, leaf_before}
use Rattle.lfs_verify.proofs.blocks.data_of_leaf.Goals as goal

pub returns-then-address-eq0-clause-goes : goal.returns-then-address-eq0-clause-goes
returns-then-address-eq0-clause-goes g c = λ d k reads is sized w.
    leaf_passed d k _ c.requires.file _ c.requires.leaf (sym is ∙ c.if-address-eq0.true) w

pub returns-then-address-marks-clause-goes : goal.returns-then-address-marks-clause-goes
returns-then-address-marks-clause-goes g c = λ d k reads is sized w blocks.
    let before = leaf_before _ _ c.requires.file c.requires.leaf in
    omega (arith, reached_inside w (Leaf c.args.file c.args.leaf) (omega (arith, before.1)) before.0 is c.if-address-eq0.false)

pub returns-then-not-branch-clause-goes : goal.returns-then-not-branch-clause-goes
returns-then-not-branch-clause-goes g c = λ d k reads is sized w blocks.
    let before = leaf_before _ _ c.requires.file c.requires.leaf in
    no_word (ap (block d) (sym is) ∙ unread d _ _ (c.in_ok-fetch.ensures.block d reads) c.if-not-branch.true)
    (reached_good w (Leaf _ _) (omega (arith, before.1)) before.0 is c.if-address-eq0.false)

pub returns-then-not-branch-2-clause-goes : goal.returns-then-not-branch-2-clause-goes
returns-then-not-branch-2-clause-goes g c = λ d k reads is sized w.
    let words = leaf_words d k _ _ is _ (read_in d _ _
    (c.in_ok-fetch.ensures.block d (reads_first reads c.data_run.ensures.keeps.looks)) c.if-not-branch.false) in
    goes_false _ _ c.if-not-branch-2.true
    (c.in_ok-data_run.ensures.goes d k (reads_then reads c.fetch.ensures.keeps.looks) words sized) w

pub returns-clause-goes : goal.returns-clause-goes
returns-clause-goes g c = λ d k reads is sized w.
    let words = leaf_words d k _ _ is _ (read_in d _ _
    (c.in_ok-fetch.ensures.block d (reads_first reads c.data_run.ensures.keeps.looks)) c.if-not-branch.false) in
    walked_as (omega arith) (goes_true _ c.if-not-branch-2.false
    (c.in_ok-data_run.ensures.goes d k (reads_then reads c.fetch.ensures.keeps.looks) words sized) w)

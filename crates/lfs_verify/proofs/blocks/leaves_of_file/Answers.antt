use Rattle.lfs_verify.proofs.RootSteps.{root_at}
use Rattle.std.proofs.Common.{sym, ◌∙◌, ap, arith}
use Rattle.lfs_model.specs.Content.{block}
use Rattle.lfs_model.specs.Entry.{Double}
use Rattle.lfs_verify.proofs.Takes.{reads_first, reads_then, read_in, unread, goes_true, goes_false, reached_inside, reached_good, no_word}
use Rattle.lfs_verify.proofs.LeafSteps.{no_leaves}
use Rattle.lfs_verify.proofs.blocks.leaves_of_file.Goals as goal

pub returns-then-double-eq0-clause-goes : goal.returns-then-double-eq0-clause-goes
returns-then-double-eq0-clause-goes g c = λ d k reads is.
    no_leaves d k _ c.requires.file (sym (root_at d k _ is c.word_at-double.ensures) ∙ c.if-double-eq0.true)

pub returns-then-double-marks-clause-goes : goal.returns-then-double-marks-clause-goes
returns-then-double-marks-clause-goes g c = λ d k reads is w leaves.
    omega (
      arith,
      reached_inside w (Double c.args.file) (omega arith) c.requires.file
          (root_at d k c.args.file is c.word_at-double.ensures) c.if-double-eq0.false,
    )

pub returns-then-not-branch-clause-goes : goal.returns-then-not-branch-clause-goes
returns-then-not-branch-clause-goes g c = λ d k reads is w leaves.
    let at = root_at d k _ is c.word_at-double.ensures in
    no_word (ap (block d) (sym at) ∙ unread d _ _ (c.in_ok-fetch.ensures.block d reads) c.if-not-branch.true)
    (reached_good w (Double _) (omega arith) c.requires.file at c.if-double-eq0.false)

pub returns-then-not-branch-2-clause-goes : goal.returns-then-not-branch-2-clause-goes
returns-then-not-branch-2-clause-goes g c = λ d k reads is w.
    let at = root_at d k _ is c.word_at-double.ensures in
    let upper = ap (block d) (sym at) ∙ read_in d _ _
    (c.in_ok-fetch.ensures.block d (reads_first reads c.leaf_blocks.ensures.keeps.looks)) c.if-not-branch.false in
    goes_false _ _ c.if-not-branch-2.true
    (c.in_ok-leaf_blocks.ensures.goes d k (reads_then reads c.fetch.ensures.keeps.looks) upper) w

pub returns-clause-goes : goal.returns-clause-goes
returns-clause-goes g c = λ d k reads is w.
    let at = root_at d k _ is c.word_at-double.ensures in
    let upper = ap (block d) (sym at) ∙ read_in d _ _
    (c.in_ok-fetch.ensures.block d (reads_first reads c.leaf_blocks.ensures.keeps.looks)) c.if-not-branch.false in
    goes_true _ c.if-not-branch-2.false
    (c.in_ok-leaf_blocks.ensures.goes d k (reads_then reads c.fetch.ensures.keeps.looks) upper) w

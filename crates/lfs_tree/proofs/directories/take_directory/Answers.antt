use Rattle.std.proofs.Common.{◌≡◌, ◌∙◌, Some, None, sym, arith}
use Rattle.std.proofs.lemmas.Result.{IfOk-weaker}
use Rattle.lfs_files.specs.Headers.{as_header}
use Rattle.lfs_tree.proofs.GoodBlocks.{names_none, nothing_taken}
use Rattle.lfs_tree.proofs.Seeing.{inode_then, sees_first, sees_then}
use Rattle.lfs_tree.proofs.directories.take_directory.Goals as goal

pub returns-in-Ok-false-clause-failed : goal.returns-in-Ok-false-clause-failed
returns-in-Ok-false-clause-failed g c same k m sees leads there =
    let both : Some (as_header c.args.header) ≡ None = sym there
    ∙ (rw c.in-Ok-false.field-0-test at (c.in-Ok-false.ensures.answer k m sees leads)) in
    cc

pub returns-in-Err-clause-failed : goal.returns-in-Err-clause-failed
returns-in-Err-clause-failed g c same k m sees leads there = c.in-Err.ensures.failed k m sees leads

pub returns-clause-takes : goal.returns-clause-takes
returns-clause-takes g c = IfOk-weaker c.take_blocks.result _ _ (λ taken takes k m sees leads base was.
    let looks = c.read_inode.ensures.keeps.looks in
    takes k m (sees_then sees looks) (inode_then k c.args.directory.value
    (rw c.in-Ok-true.field-0-test at (c.in-Ok-true.ensures.answer k m (sees_first sees c.take_blocks.ensures.keeps.looks) leads)).block
    looks) base
    (nothing_taken c.args.header.form c.new-names.result (names_none c.new-names.result c.new-names.ensures.empty) was))
    c.take_blocks.ensures.takes

pub returns-clause-failed : goal.returns-clause-failed
returns-clause-failed g c same k m sees leads there =
    let looks = c.read_inode.ensures.keeps.looks in
    let rose = c.take_blocks.ensures.failed same k m (sees_then sees looks)
    (inode_then k c.args.directory.value (rw c.in-Ok-true.field-0-test at (c.in-Ok-true.ensures.answer k m
    (sees_first sees c.take_blocks.ensures.keeps.looks) leads)).block looks) in
    omega arith

use Rattle.std.proofs.Common.{◌≡◌, ◌∙◌, Some, None, sym, arith}
use Rattle.std.proofs.lemmas.Result.{IfOk-weaker, on_err_weaker}
use Rattle.lfs_model.proofs.Exits.{any_error}
use Rattle.lfs_files.specs.Headers.{as_header}
use Rattle.lfs_tree.proofs.LinkTexts.{text_decided}
use Rattle.lfs_tree.proofs.ObjectNames.{head_told}
use Rattle.lfs_tree.proofs.Seeing.{inode_then, sees_first, sees_then}
use Rattle.lfs_tree.proofs.texts.check_object.Goals as goal

pub returns-then-not-branch-clause-failed : goal.returns-then-not-branch-clause-failed
returns-then-not-branch-clause-failed g c k m sees leads told =
    let both : Some (as_header c.in-Some.header) ≡ None = sym (head_told m c.args.headers.now told c.args.number.value (omega arith) (cc))
    ∙ (rw c.if-not-branch.true at (c.in_ok-read_inode.ensures.answer k m sees leads)) in
    cc

pub returns-in_err-read_inode-clause-failed : goal.returns-in_err-read_inode-clause-failed
returns-in_err-read_inode-clause-failed g c =
    any_error c.from_residual.result _ (λ k m sees leads told. c.in_err-read_inode.ensures.failed k m sees leads)

pub returns-clause-holds : goal.returns-clause-holds
returns-clause-holds g c = IfOk-weaker c.check_bytes.result _ _ (λ holds decides k m sees leads told.
    let looks = c.read_inode.ensures.keeps.looks in
    text_decided m c.args.headers.now told c.args.number.value (omega arith) c.in-Some.header
    (cc) holds (c.is_link.ensures.0 c.if-not-is_link.false)
    (decides k m c.args.number.value (sees_then sees looks)
    (inode_then k c.args.number.value (rw c.if-not-branch.false at (c.in_ok-read_inode.ensures.answer k m
    (sees_first sees c.check_bytes.ensures.keeps.looks) leads)).block looks))) c.check_bytes.ensures.holds

pub returns-clause-failed : goal.returns-clause-failed
returns-clause-failed g c = on_err_weaker c.check_bytes.result (λ fails k m sees leads told.
    let looks = c.read_inode.ensures.keeps.looks in
    let rose = fails k m c.args.number.value (sees_then sees looks)
    (inode_then k c.args.number.value (rw c.if-not-branch.false at (c.in_ok-read_inode.ensures.answer k m
    (sees_first sees c.check_bytes.ensures.keeps.looks) leads)).block looks) in
    omega arith)
    c.check_bytes.ensures.failed

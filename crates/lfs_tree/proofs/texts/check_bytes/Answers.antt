use Rattle.std.proofs.Common.{arith, ◌∙◌, refl}
use Rattle.lfs_model.proofs.Exits.{any_error}
use Rattle.lfs_verify.proofs.Takes.{looks_none, looks_then}
use Rattle.lfs_tree.proofs.LinkTexts.{texts_fail, texts_go_on}
use Rattle.lfs_tree.proofs.Seeing.{inode_then, sees_first, sees_then}
use Rattle.lfs_tree.proofs.texts.check_bytes.Goals as goal

pub loop-index-init : goal.loop-index-init
loop-index-init g c = record {
  looks = looks_none (g.met.D.SectorDevice.lawful c.args.device.now);
  no_failure = refl;
  none = λ k m n sees is p low none. omega arith;
}

pub returns-in_err-read_block-clause-failed : goal.returns-in_err-read_block-clause-failed
returns-in_err-read_block-clause-failed g c = any_error c.from_residual.result _ (λ k m n sees is.
    let looks = c.loop-index.invariant.looks in
    omega (arith, c.in_err-read_block.ensures.failed k m n (sees_then sees looks) (inode_then k n is looks)))

pub loop-index-preserved : goal.loop-index-preserved
loop-index-preserved g c =
    let here = c.loop-index.invariant in
    record {
      looks = looks_then here.looks c.in_ok-read_block.ensures.keeps.looks;
      no_failure = c.in_ok-read_block.ensures.keeps.no_failure ∙ here.no_failure;
      none = λ k m n sees own.
          texts_go_on m n c.args.size (c.in_ok-read_block.ensures.answer k m n (sees_then sees here.looks) (inode_then k n own here.looks))
          (omega arith) (omega arith) (here.none k m n (sees_first sees c.in_ok-read_block.ensures.keeps.looks) own)
          (c.is_nonzero.ensures.0 c.if-not-is_nonzero.false);
    }

pub returns-then-not-is_nonzero-clause-holds : goal.returns-then-not-is_nonzero-clause-holds
returns-then-not-is_nonzero-clause-holds g c k m n sees own =
    let here = c.loop-index.invariant in
    texts_fail m n c.args.size (c.in_ok-read_block.ensures.answer k m n (sees_then sees here.looks) (inode_then k n own here.looks))
    (omega arith) (omega arith) (λ all. let yes = c.is_nonzero.ensures.1 all in cc)

pub returns-clause-holds : goal.returns-clause-holds
returns-clause-holds g c k m n sees own =
    λ p low. c.loop-index.invariant.none k m n sees own p (omega arith)

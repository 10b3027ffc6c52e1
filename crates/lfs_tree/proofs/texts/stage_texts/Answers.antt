use Rattle.std.proofs.Common.{below_more, arith, ◌∙◌, refl}
use Rattle.lfs_model.proofs.Exits.{any_error}
use Rattle.lfs_verify.proofs.Takes.{looks_none, looks_then}
use Rattle.lfs_tree.specs.Texts.{IsGoodText}
use Rattle.lfs_tree.proofs.ObjectNames.{held_headers}
use Rattle.lfs_tree.proofs.LinkTexts.{decided_false, decided_true, stage_if_text, text_if_stage}
use Rattle.lfs_tree.proofs.Seeing.{leads_then, sees_first, sees_then}
use Rattle.lfs_tree.proofs.texts.stage_texts.Goals as goal

pub loop-number-init : goal.loop-number-init
loop-number-init g c = record {
  looks = looks_none (g.met.D.SectorDevice.lawful c.args.device.now);
  no_failure = refl;
  good = λ k m sees leads told n low h at link.
      let some = ((held_headers sees.holds n h at).number).0 in
      absurd (omega arith);
}

pub loop-number-preserved : goal.loop-number-preserved
loop-number-preserved g c =
    let here = c.loop-number.invariant in
    let number = c.loop-number.number in
    record {
      looks = looks_then here.looks c.in_ok-check_object.ensures.keeps.looks;
      no_failure = c.in_ok-check_object.ensures.keeps.no_failure ∙ here.no_failure;
      good = λ k m sees leads told.
          below_more (IsGoodText m) number (here.good k m (sees_first sees c.in_ok-check_object.ensures.keeps.looks) leads told)
          (decided_true (IsGoodText m number) c.if-not-branch.false (c.in_ok-check_object.ensures.holds k m
          (sees_then sees here.looks) (leads_then leads here.looks) told));
    }

pub returns-then-not-branch-clause-holds : goal.returns-then-not-branch-clause-holds
returns-then-not-branch-clause-holds g c k m sees leads told stage =
    let here = c.loop-number.invariant in
    let number = c.loop-number.number in
    decided_false (IsGoodText m number) c.if-not-branch.true (c.in_ok-check_object.ensures.holds k m
    (sees_then sees here.looks) (leads_then leads here.looks) told) (text_if_stage m (held_headers sees.holds) stage number)

pub returns-in_err-check_object-clause-failed : goal.returns-in_err-check_object-clause-failed
returns-in_err-check_object-clause-failed g c = any_error c.from_residual.result _ (λ k m sees leads told.
    let looks = c.loop-number.invariant.looks in
    omega (arith, c.in_err-check_object.ensures.failed k m (sees_then sees looks) (leads_then leads looks) told))

pub returns-clause-holds : goal.returns-clause-holds
returns-clause-holds g c k m sees leads told =
    stage_if_text m (held_headers sees.holds)
    (λ n low. c.loop-number.invariant.good k m sees leads told n (omega arith))

use Rattle.lfs_verify.specs.Loading.{SaysUsage}
use Rattle.std.proofs.Common.{◌∙◌, refl}
use Rattle.lfs_model.proofs.Exits.{same_error}
use Rattle.lfs_verify.proofs.tables.load_usage.Goals as goal
use Rattle.lfs_verify.proofs.Takes.{looks_none, looks_then}
use Rattle.lfs_verify.proofs.UsageLoads.{says_nothing, fault_then, says_then}

pub loop-index-init : goal.loop-index-init
loop-index-init g c = record {
  upto = c.requires.before;
  says = λ keeps. says_nothing _ _ _;
  unit = refl;
  looks = looks_none (g.met.D.SectorDevice.lawful _);
  no_failure = refl;
}

pub loop-index-preserved : goal.loop-index-preserved
loop-index-preserved g c =
    let was = c.loop-index.invariant in
    let now = c.in_ok-load_usage_block.ensures in
    record {
      upto = now.after;
      says = λ keeps. says_then (λ x. SaysUsage x c.args.checkpoint.now) was.looks
          (was.says (now.keeps.looks.carries.kept_before keeps)) (now.says keeps);
      unit = now.unit ∙ was.unit;
      looks = looks_then was.looks now.keeps.looks;
      no_failure = now.keeps.no_failure ∙ was.no_failure;
    }

pub returns-in_err-load_usage_block-clause-cause : goal.returns-in_err-load_usage_block-clause-cause
returns-in_err-load_usage_block-clause-cause g c =
    let fault = c.in_err-load_usage_block.field-0.0 in
    same_error c.from_residual.result fault _ c.from_residual.ensures
    (fault_then (g.D.SectorDevice.state _) _ c.loop-index.invariant.looks fault
    c.in_err-load_usage_block.ensures.cause)

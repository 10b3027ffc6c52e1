use Rattle.std.proofs.Common.{arith}
use Rattle.lfs_model.proofs.Exits.{any_error}
use Rattle.lfs_verify.proofs.Takes.{looks_then}
use Rattle.lfs_tree.proofs.Seeing.{leads_then, sees_first, sees_then, told_next}
use Rattle.lfs_tree.proofs.headers.read_headers.Goals as goal

pub returns-in_err-found-clause-failed : goal.returns-in_err-found-clause-failed
returns-in_err-found-clause-failed g c = any_error c.from_residual.result _ (λ k m sees leads.
    let looks = c.loop-number.invariant.looks in
    omega (arith, c.in_err-found.ensures.failed k m (sees_then sees looks) (leads_then leads looks)))

pub loop-number-preserved : goal.loop-number-preserved
loop-number-preserved g c =
    let here = c.loop-number.invariant in
    let step = c.in_ok-found.ensures in
    record {
      looks = looks_then here.looks step.keeps.looks;
      no_failure = cc;
      told = λ k m sees leads.
          rw c.set.ensures.set (told_next m c.loop-number.headers c.loop-number.number c.in_ok-found.found (omega arith)
          (here.told k m (sees_first sees step.keeps.looks) leads)
          (step.answer k m (sees_then sees here.looks) (leads_then leads here.looks)));
    }

pub returns-clause-told : goal.returns-clause-told
returns-clause-told g c k m sees leads =
    λ n low. c.loop-number.invariant.told k m sees leads n (omega arith)

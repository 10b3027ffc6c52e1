use Rattle.std.proofs.Common.{◌<◌}
use Rattle.std.proofs.lemmas.Result.{IfErr-weaker, on_ok_weaker}
use Rattle.lfs_model.proofs.Exits.{same_error}
use Rattle.lfs_tree.specs.Checking.{IsTreeDamage}
use Rattle.lfs_tree.proofs.CheckSteps.{fault_after, gathered, no_failure}
use Rattle.lfs_tree.proofs.Seeing.{leads_then, sees_first, sees_then}
use Rattle.lfs_tree.proofs.check.check_stages.Goals as goal

pub returns-in-Err-clause-reason : goal.returns-in-Err-clause-reason
returns-in-Err-clause-reason g c k m sees of_log empty = c.in-Err.ensures.failed k m sees of_log.leads

pub returns-in_err-check_objects-clause-reason : goal.returns-in_err-check_objects-clause-reason
returns-in_err-check_objects-clause-reason g c =
    same_error c.from_residual.result c.in_err-check_objects.field-0.0 _ c.from_residual.ensures (λ k m sees of_log empty.
    let looks = c.read_headers.ensures.keeps.looks in
    fault_after (g.D.SectorDevice.state c.check_objects.new.device) looks (IsTreeDamage k.segments m) c.in_err-check_objects.field-0.0
    (c.in_err-check_objects.ensures.reason k m (sees_then sees looks) (leads_then of_log.leads looks)
    (c.in-Ok.ensures.told k m (sees_first sees c.check_objects.ensures.keeps.looks) of_log.leads) empty))

pub returns-clause-done : goal.returns-clause-done
returns-clause-done g c = on_ok_weaker c.check_names.result (λ whole k m sees of_log empty.
    let looks = c.read_headers.ensures.keeps.looks in
    let told = c.in-Ok.ensures.told k m (sees_first sees c.check_objects.ensures.keeps.looks) of_log.leads in
    let done = c.in_ok-check_objects.ensures.done k m (sees_then sees looks) (leads_then of_log.leads looks) told empty in
    whole (g.D.SectorDevice.state c.args.device.now).content k m (gathered sees.holds sees.sized told done.0 done.1 done.2 of_log))
    c.check_names.ensures.done

pub returns-clause-reason : goal.returns-clause-reason
returns-clause-reason g c = IfErr-weaker c.check_names.result _ _ (λ fault reason k m sees of_log empty.
    let old = g.D.SectorDevice.state c.args.device.now in
    let looks = c.read_headers.ensures.keeps.looks in
    let told = c.in-Ok.ensures.told k m (sees_first sees c.check_objects.ensures.keeps.looks) of_log.leads in
    let done = c.in_ok-check_objects.ensures.done k m (sees_then sees looks) (leads_then of_log.leads looks) told empty in
    no_failure (old.failures < (g.D.SectorDevice.state c.check_objects.new.device).failures) (IsTreeDamage k.segments m) fault
    (reason old.content k m (gathered sees.holds sees.sized told done.0 done.1 done.2 of_log))) c.check_names.ensures.reason

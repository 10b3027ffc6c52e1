use Rattle.std.specs.Prelude.{Result, Ok, Err, IsErr, OnErr}
use Rattle.lfs_memory.proofs.Going.{on_err}
use Rattle.lfs_log.proofs.PublishSteps.{published, replace_fails, sync_fails}
use Rattle.lfs_log.proofs.publishing.publish.Goals as goal

-- what a failure says
failed_of : {T E : Type 0} (r : Result T E) {P : Type 0} → IsErr r → OnErr r P → P
failed_of (Ok x) is says = absurd (cc)
failed_of (Err e) is says = says

pub returns-in_err-make_durable-clause-stopped : goal.returns-in_err-make_durable-clause-stopped
returns-in_err-make_durable-clause-stopped g c =
    let e = c.in_err-make_durable.ensures in
    on_err _ _ (sync_fails _ _ _ _ _ (g.met.D.SectorDevice.lawful c.args.device.now) e.looks e.failed_order)

pub returns-in_err-replace-clause-stopped : goal.returns-in_err-replace-clause-stopped
returns-in_err-replace-clause-stopped g c =
    let e = c.in_ok-make_durable.ensures in
    let r = c.in_err-replace.ensures in
    on_err _ _ (replace_fails _ _ _ _ _ (g.met.D.SectorDevice.lawful c.args.device.now) e.looks _ c.next_checkpoint-next.result
    c.requires.memory c.requires.out c.next_checkpoint-next.ensures e.durable e.no_failure r.any_moment r.left r.carries r.failed_order)

pub returns-clause-done : goal.returns-clause-done
returns-clause-done g c =
    let e = c.in_ok-make_durable.ensures in
    let r = c.in_ok-replace.ensures in
    published _ _ _ _ _ (g.met.D.SectorDevice.lawful c.args.device.now) e.looks _ c.next_checkpoint-next.result
    c.requires.memory c.requires.out c.next_checkpoint-next.ensures e.durable e.no_failure r.any_moment r.left r.carries
    c.release.ensures r.content r.durable r.no_failure

pub returns-in_err-make_durable-clause-moment : goal.returns-in_err-make_durable-clause-moment
returns-in_err-make_durable-clause-moment g c =
    (failed_of _ c.from_residual.ensures.0 (returns-in_err-make_durable-clause-stopped g c)).moment

pub returns-in_err-replace-clause-moment : goal.returns-in_err-replace-clause-moment
returns-in_err-replace-clause-moment g c =
    (failed_of _ c.from_residual-in_err-replace.ensures.0 (returns-in_err-replace-clause-stopped g c)).moment

pub returns-clause-moment : goal.returns-clause-moment
returns-clause-moment g c = (returns-clause-done g c).moment

use Rattle.lfs_memory.proofs.Going.{ok_then, err_then}
use Rattle.lfs_memory.proofs.Staged.{prepared_refuses, prepared_excused, loss_refuses, loss_excuses, stages, unready_refuses}
use Rattle.lfs_memory.proofs.Staged.{unready_excused}
use Rattle.lfs_memory.proofs.staging.stage_with_room.Goals as goal

pub returns-in-Err-clause-refused : goal.returns-in-Err-clause-refused
returns-in-Err-clause-refused g c =
    prepared_refuses _ _ _ (g.met.D.SectorDevice.lawful _) c.prepare_batch.ensures.prepares

pub returns-in-Err-clause-failed : goal.returns-in-Err-clause-failed
returns-in-Err-clause-failed g c =
    let d = g.D.SectorDevice.state c.args.device.now in
    let d' = g.D.SectorDevice.state c.prepare_batch.new.device in
    rw c.in-Err.is at
    (prepared_excused c.args.loss c.args.headers.now c.args.blocks.now
    (g.met.D.SectorDevice.lawful c.args.device.now) c.prepare_batch.ensures.prepares c.prepare_batch.result c.requires.room
    c.prepare_batch.ensures.full c.prepare_batch.ensures.failed)

pub returns-in-Err-lose-clause-refused : goal.returns-in-Err-lose-clause-refused
returns-in-Err-lose-clause-refused g c =
    loss_refuses _ _ _ (g.met.D.SectorDevice.lawful _) c.prepare_batch.ensures.prepares _ c.in-Err-lose.ensures.prepares

pub returns-in-Err-lose-clause-failed : goal.returns-in-Err-lose-clause-failed
returns-in-Err-lose-clause-failed g c =
    let d = g.D.SectorDevice.state c.args.device.now in
    let d' = g.D.SectorDevice.state c.lose.new.device in
    rw c.in-Err-lose.is at
    (loss_excuses c.args.loss c.args.headers.now c.args.blocks.now
    (g.met.D.SectorDevice.lawful c.args.device.now) c.prepare_batch.ensures.prepares c.lose.new.memory c.lose.result c.requires.room
    c.in-Err-lose.ensures.prepares c.lose.ensures.full c.lose.ensures.failed)

pub returns-clause-done : goal.returns-clause-done
returns-clause-done g c =
    ok_then c.apply_batch.result _ _ (stages _ _ _ (g.met.D.SectorDevice.lawful _) c.prepare_batch.ensures.prepares _
    c.in-Ok-lose.ensures.done c.in-Ok.ensures.headers c.in-Ok.ensures.blocks c.apply_batch.ensures.stays) c.apply_batch.ensures.done

pub returns-clause-refused : goal.returns-clause-refused
returns-clause-refused g c =
    err_then c.apply_batch.result _ _ (unready_refuses _ _ _ (g.met.D.SectorDevice.lawful _) c.prepare_batch.ensures.prepares _
    c.in-Ok-lose.ensures.done c.in-Ok.ensures.headers c.in-Ok.ensures.blocks c.apply_batch.ensures.stays) c.apply_batch.ensures.failed

pub returns-clause-failed : goal.returns-clause-failed
returns-clause-failed g c =
    err_then c.apply_batch.result _ _ (unready_excused _ _ _ (g.met.D.SectorDevice.lawful _) c.prepare_batch.ensures.prepares _
    c.in-Ok-lose.ensures.done c.in-Ok.ensures.headers c.in-Ok.ensures.blocks c.apply_batch.ensures.stays) c.apply_batch.ensures.failed

use Rattle.std.proofs.lemmas.Result.{err_from_is_err_and}
use Rattle.lfs_model.specs.Call.{Create, Handle}
use Rattle.lfs_record.proofs.Recorded.{call_again, call_done, call_ends, call_tried, none_yet}
use Rattle.lfs_record.proofs.recorder.Recorder.create.Goals as goal

pub loop-init : goal.loop-init
loop-init g c = none_yet g.D.SectorDevice.state _ c.args.self.now

pub returns-in-Ok : goal.returns-in-Ok
returns-in-Ok g c =
    call_done g.D.SectorDevice.state _ _ c.args.self.now (Create c.args.path.now) Handle tt c.loop.invariant _ c.in-Ok.handle
    c.in-Ok.ensures

pub returns-in_err-make_room-in-Err : goal.returns-in_err-make_room-in-Err
returns-in_err-make_room-in-Err g c =
    let p = err_from_is_err_and c.from_residual.result c.from_residual.ensures.1 in rw (p.1, p.2)
    (call_ends g.D.SectorDevice.state _ _ c.args.self.now (Create c.args.path.now) Handle tt c.loop.invariant _ _ c.in-Err.fault
    c.in-Err.ensures
    c.in_err-make_room-in-Err.field-0.0 c.in_err-make_room-in-Err.ensures)

pub loop-preserved : goal.loop-preserved
loop-preserved g c =
    call_again g.D.SectorDevice.state _ _ c.args.self.now (Create c.args.path.now) Handle tt c.loop.invariant _ _ c.in-Err.fault
    c.in-Err.ensures tt
    c.in_ok-make_room-in-Err.ensures

pub returns : goal.returns
returns g c = call_tried g.D.SectorDevice.state _ _ c.args.self.now
    (Create c.args.path.now) Handle tt c.loop.invariant _ c.create-2.result c.create-2.ensures

use Rattle.std.proofs.Common.{rules}
use Rattle.lfs_model.specs.Entry.{Inode}
use Rattle.lfs_memory.proofs.Going.{on_err}
use Rattle.lfs_memory.proofs.Lifted.{prepares_then, prepares_and_looks, prepares_excused, ends_failed, ends_other, ends_passed, ends_after}
use Rattle.lfs_memory.proofs.CutFiles.{file_cut, nothing_cut}
use Rattle.lfs_memory.proofs.cutting.cut_file.Goals as goal

pub returns-in-Ok-false-clause-cuts : goal.returns-in-Ok-false-clause-cuts
returns-in-Ok-false-clause-cuts g c =
    nothing_cut c.in-Ok-false.ensures.prepares (c.in-Ok-false.ensures.none (search rules))

pub returns-in-Err-clause-ends : goal.returns-in-Err-clause-ends
returns-in-Err-clause-ends g c = ends_other c.in-Err.ensures.ends

pub returns-in_err-lift_edge-clause-prepares : goal.returns-in_err-lift_edge-clause-prepares
returns-in_err-lift_edge-clause-prepares g c =
    on_err c.from_residual.result _ (prepares_then
    (g.met.D.SectorDevice.lawful _) c.in-Ok-true.ensures.prepares c.lift_edge.ensures.prepares)

pub returns-in_err-lift_edge-clause-ends : goal.returns-in_err-lift_edge-clause-ends
returns-in_err-lift_edge-clause-ends g c =
    ends_passed (ends_after c.in-Ok-true.ensures.prepares c.lift_edge.ensures.prepares.looks c.in_err-lift_edge.ensures.ends)
    c.from_residual.ensures

pub returns-in-Ok-clause-cuts : goal.returns-in-Ok-clause-cuts
returns-in-Ok-clause-cuts g c =
    let up = prepares_then (g.met.D.SectorDevice.lawful c.args.device.now) c.in-Ok-true.ensures.prepares c.lift_edge.ensures.prepares in
    let there = (c.in-Ok-true.ensures.inside (search rules)).1 in
    file_cut (g.met.D.SectorDevice.lawful c.args.device.now) up
    c.drop_counted.ensures.looks.looks c.requires.number (c.lift_edge.ensures.prepares.stay (Inode c.args.number) there)
    c.in_ok-lift_edge.ensures.edge
    c.in-Ok.ensures.counted c.in-Ok.ensures.drops

pub returns-in-Err-drop_counted-clause-prepares : goal.returns-in-Err-drop_counted-clause-prepares
returns-in-Err-drop_counted-clause-prepares g c =
    let lawful = g.met.D.SectorDevice.lawful _ in
    let up = prepares_then lawful c.in-Ok-true.ensures.prepares c.lift_edge.ensures.prepares in
    rw c.in-Err-drop_counted.ensures.same (prepares_and_looks lawful up c.drop_counted.ensures.looks.looks)

pub returns-in-Err-drop_counted-clause-ends : goal.returns-in-Err-drop_counted-clause-ends
returns-in-Err-drop_counted-clause-ends g c =
    let up = prepares_then (g.met.D.SectorDevice.lawful _) c.in-Ok-true.ensures.prepares c.lift_edge.ensures.prepares in
    ends_failed (prepares_excused up c.drop_counted.ensures.looks.looks c.in-Err-drop_counted.ensures.looks.failed)

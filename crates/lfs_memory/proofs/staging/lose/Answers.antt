use Rattle.lfs_memory.proofs.Going.{ok_then}
use Rattle.lfs_memory.proofs.Staged.{blocks_lost, link_lost, file_lost, link_excused, loss_excused, version_lost}
use Rattle.lfs_memory.proofs.staging.lose.Goals as goal

pub returns-in-Blocks-clause-done : goal.returns-in-Blocks-clause-done
returns-in-Blocks-clause-done g c =
    let d = g.D.SectorDevice.state c.args.device.now in
    let d' = g.D.SectorDevice.state c.cut_file.new.device in
    ok_then c.cut_file.result _ _ (λ go. rw c.in-Blocks.is
    (blocks_lost d c.in-Blocks.cut go)) c.cut_file.ensures.cuts

pub returns-in-Blocks-clause-failed : goal.returns-in-Blocks-clause-failed
returns-in-Blocks-clause-failed g c is =
    loss_excused (g.D.SectorDevice.state c.args.device.now) (g.D.SectorDevice.state c.cut_file.new.device) c.args.memory.now c.args.loss
    (c.cut_file.ensures.ends.failed is)

pub returns-in-Link-clause-done : goal.returns-in-Link-clause-done
returns-in-Link-clause-done g c =
    let d = g.D.SectorDevice.state c.args.device.now in
    let d' = g.D.SectorDevice.state c.hide_file.new.device in
    ok_then c.hide_file.result _ _ (λ go. rw c.in-Link.is
    (link_lost d c.in-Link.link go)) c.hide_file.ensures.hides

pub returns-in-Link-clause-failed : goal.returns-in-Link-clause-failed
returns-in-Link-clause-failed g c is =
    let d = g.D.SectorDevice.state _ in
    let d' = g.D.SectorDevice.state _ in
    rw c.in-Link.is
    (link_excused d d' c.args.memory.now c.in-Link.link (c.hide_file.ensures.failed is))

pub returns-in-Ok-clause-done : goal.returns-in-Ok-clause-done
returns-in-Ok-clause-done g c =
    let d = g.D.SectorDevice.state c.args.device.now in
    let d' = g.D.SectorDevice.state c.remove_file.new.device in
    rw c.in-File.is
    (file_lost d c.in-File.removal c.in-Ok.ensures.removed)

pub returns-in-Err-clause-failed : goal.returns-in-Err-clause-failed
returns-in-Err-clause-failed g c is =
    loss_excused (g.D.SectorDevice.state c.args.device.now) (g.D.SectorDevice.state c.remove_file.new.device) c.args.memory.now c.args.loss
    c.in-Err.ensures.failed

pub returns-in-FirstVersion-clause-done : goal.returns-in-FirstVersion-clause-done
returns-in-FirstVersion-clause-done g c =
    let d = g.D.SectorDevice.state _ in
    rw c.in-FirstVersion.is
    (version_lost d _ c.requires.memory)

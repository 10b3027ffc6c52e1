use Rattle.lfs_memory.proofs.CutEdges.{passed_on}
use Rattle.lfs_memory.proofs.Lifted.{prepares_then}
use Rattle.lfs_memory.proofs.Prepared.{headers_ready_after, all_excused, excused_then}
use Rattle.lfs_memory.proofs.Going.{ok_then}
use Rattle.lfs_memory.proofs.preparing.prepare_batch.Goals as goal

pub returns-in_err-prepare_headers-clause-failed : goal.returns-in_err-prepare_headers-clause-failed
returns-in_err-prepare_headers-clause-failed g c is =
    all_excused (g.D.SectorDevice.state c.args.device.now) (g.D.SectorDevice.state c.prepare_headers.new.device) c.args.memory.now
    c.args.blocks.now (c.in_err-prepare_headers.ensures.failed
    (passed_on c.from_residual.result c.in_err-prepare_headers.field-0.0 _ c.from_residual.ensures is))

pub returns-clause-prepares : goal.returns-clause-prepares
returns-clause-prepares g c =
    prepares_then (g.met.D.SectorDevice.lawful _) c.prepare_headers.ensures.prepares c.prepare_blocks.ensures.prepares

pub returns-clause-headers : goal.returns-clause-headers
returns-clause-headers g c =
    ok_then c.prepare_blocks.result _ _ (λ _. headers_ready_after _ c.prepare_blocks.ensures.prepares c.in_ok-prepare_headers.ensures.ready)
    c.prepare_blocks.ensures.ready

pub returns-clause-failed : goal.returns-clause-failed
returns-clause-failed g c is =
    excused_then _ c.prepare_headers.ensures.prepares
    c.prepare_blocks.ensures.prepares.looks (c.prepare_blocks.ensures.failed is)

use Rattle.std.proofs.Common.{sym}
use Rattle.lfs_memory.proofs.CutEdges.{passed_on}
use Rattle.lfs_memory.proofs.Prepared.{blocks_next, blocks_fault, blocks_short, blocks_excused}
use Rattle.lfs_memory.proofs.preparing.prepare_blocks.Goals as goal

pub returns-in_err-prepare_block-clause-prepares : goal.returns-in_err-prepare_block-clause-prepares
returns-in_err-prepare_block-clause-prepares g c =
    blocks_fault c.loop-edit.edit-index
    (g.met.D.SectorDevice.lawful _) (g.met.D.SectorDevice.lawful c.loop-edit.device) c.loop-edit-test.true
    (sym c.edit-item.is) c.loop-edit.invariant c.prepare_block.ensures.prepares c.in_err-prepare_block.ensures.away

pub returns-in_err-prepare_block-clause-full : goal.returns-in_err-prepare_block-clause-full
returns-in_err-prepare_block-clause-full g c is =
    blocks_short c.loop-edit.edit-index
    (g.met.D.SectorDevice.lawful _) (g.met.D.SectorDevice.lawful c.loop-edit.device) c.loop-edit-test.true
    (sym c.edit-item.is) c.loop-edit.invariant c.prepare_block.ensures.prepares c.in_err-prepare_block.ensures.away
    (c.in_err-prepare_block.ensures.ends.short
    (passed_on c.from_residual.result c.in_err-prepare_block.field-0.0 _ c.from_residual.ensures is))

pub returns-in_err-prepare_block-clause-failed : goal.returns-in_err-prepare_block-clause-failed
returns-in_err-prepare_block-clause-failed g c is =
    blocks_excused c.loop-edit.edit-index
    (g.met.D.SectorDevice.lawful _) (g.met.D.SectorDevice.lawful c.loop-edit.device) c.loop-edit-test.true
    (sym c.edit-item.is) c.loop-edit.invariant c.prepare_block.ensures.prepares (c.in_err-prepare_block.ensures.ends.failed
    (passed_on c.from_residual.result c.in_err-prepare_block.field-0.0 _ c.from_residual.ensures is))

pub loop-edit-preserved : goal.loop-edit-preserved
loop-edit-preserved g c =
    blocks_next c.loop-edit.edit-index
    (g.met.D.SectorDevice.lawful _) (g.met.D.SectorDevice.lawful c.loop-edit.device) c.loop-edit-test.true
    (sym c.edit-item.is) c.loop-edit.invariant c.prepare_block.ensures.prepares
    c.prepare_block.ensures.same c.in_ok-prepare_block.ensures.ends.ready
    c.in_ok-prepare_block.ensures.ends.no_failure

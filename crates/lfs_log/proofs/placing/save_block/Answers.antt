use Rattle.lfs_memory.specs.inodes.Key.{entry_of}
use Rattle.lfs_log.proofs.LeftMemory.{leaves_still}
use Rattle.std.proofs.Common.{◌+◌, ◌∙◌, ap}
use Rattle.lfs_memory.specs.inodes.Blocks.{TableValue}
use Rattle.lfs_memory.specs.inodes.Data.{data_count}
use Rattle.lfs_memory.proofs.Moved.{moves_out_then}
use Rattle.lfs_log.proofs.placing.save_block.Goals as goal
use Rattle.lfs_log.proofs.EarlyBlocks.{goes_early}
use Rattle.lfs_log.proofs.SavedBlocks.{saving_done, saving_failed, sealed_then, stops_sealing}
use Rattle.lfs_memory.proofs.Spared.{spares_then}
use Rattle.lfs_log.proofs.StaysCleanable.{cleanable_then}

pub returns-in_err-seal_full-clause-saves : goal.returns-in_err-seal_full-clause-saves
returns-in_err-seal_full-clause-saves g c =
    saving_failed _ c.from_residual-in_err-seal_full.ensures
    (stops_sealing c.in_ok-write_block.ensures.writes.done c.write_block.ensures.writes.tells c.in_err-seal_full.ensures.saves.stopped)

pub returns-clause-saves : goal.returns-clause-saves
returns-clause-saves g c =
    saving_done
    (sealed_then c.in_ok-write_block.ensures.writes.done c.write_block.ensures.writes.tells c.in_ok-seal_full.ensures.saves.done)

pub returns-clause-early : goal.returns-clause-early
returns-clause-early g c fresh =
    goes_early c.write_block.new.memory
    (c.in_ok-seal_full.ensures.fresh (c.in_ok-write_block.ensures.fresh fresh)) c.in_ok-write_block.ensures.fewer
    c.seal_full.ensures.only.dirty c.seal_full.ensures.only.usage (c.in_ok-write_block.ensures.early fresh)

pub returns-clause-data_blocks : goal.returns-clause-data_blocks
returns-clause-data_blocks g c kind =
    ap (λ (t : TableValue). data_count t + 1) c.seal_full.ensures.only.dirty ∙ c.in_ok-write_block.ensures.data_blocks kind

pub returns-clause-cleanable : goal.returns-clause-cleanable
returns-clause-cleanable g c =
    cleanable_then c.args.memory.now c.write_block.new.memory c.seal_full.new.memory
    c.in_ok-write_block.ensures.cleanable c.seal_full.ensures.only.usage
    c.seal_full.ensures.segment

pub returns-clause-spares : goal.returns-clause-spares
returns-clause-spares g c =
    spares_then (g.D.SectorDevice.state c.args.device.now) (g.D.SectorDevice.state c.write_block.new.device)
    (g.D.SectorDevice.state c.seal_full.new.device) c.in_ok-write_block.ensures.spares c.in_ok-seal_full.ensures.spares
    c.in_ok-seal_full.ensures.saves.done.goes.carries.kept_before

pub returns-clause-moves : goal.returns-clause-moves
returns-clause-moves g c =
    moves_out_then _ c.in_ok-seal_full.ensures.saves.done.goes.carries.kept_before c.seal_full.ensures.segment
    c.in_ok-write_block.ensures.moves c.in_ok-seal_full.ensures.stays

pub returns-clause-out : goal.returns-clause-out
returns-clause-out g c = leaves_still (entry_of c.args.key) c.seal_full.ensures.only.dirty c.in_ok-write_block.ensures.out

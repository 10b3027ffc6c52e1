use Rattle.std.proofs.Common.{arith}
use Rattle.lfs_log.proofs.SavedBlocks.{saves_at_most, saves_then, saving_at_most, saving_done, saving_failed, stops_behind}
use Rattle.lfs_log.proofs.committing.place_all.Goals as goal

pub returns-in_err-save_files-clause-saves : goal.returns-in_err-save_files-clause-saves
returns-in_err-save_files-clause-saves g c =
    saving_failed _ c.from_residual.ensures (saving_at_most _ _ (omega arith) (omega arith) c.in_err-save_files.ensures.saves.stopped)

pub returns-in_err-save_map-clause-saves : goal.returns-in_err-save_map-clause-saves
returns-in_err-save_map-clause-saves g c =
    saving_failed _ c.from_residual-in_err-save_map.ensures (saving_at_most _ _ (omega arith) (omega arith)
    (stops_behind c.in_ok-save_files.ensures.saves.done c.in_err-save_map.ensures.saves.stopped))

pub returns-in_err-settle_usage-clause-saves : goal.returns-in_err-settle_usage-clause-saves
returns-in_err-settle_usage-clause-saves g c =
    saving_failed _ c.from_residual-in_err-settle_usage.ensures (saving_at_most _ _ (omega arith) (omega arith)
    (stops_behind (saves_then c.in_ok-save_files.ensures.saves.done c.in_ok-save_map.ensures.saves.done)
    c.in_err-settle_usage.ensures.saves.stopped))

pub returns-clause-saves : goal.returns-clause-saves
returns-clause-saves g c =
    saving_done (saves_at_most _ _ (omega arith) (omega arith)
    (saves_then (saves_then c.in_ok-save_files.ensures.saves.done c.in_ok-save_map.ensures.saves.done)
    c.in_ok-settle_usage.ensures.saves.done))

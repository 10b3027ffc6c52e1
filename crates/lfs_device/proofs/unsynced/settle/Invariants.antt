use Rattle.lfs_device.proofs.UnsyncedLists.{Settling}
use Rattle.lfs_device.proofs.unsynced.settle.Given as goal

abbrev pub invariant-loop-sector : goal.invariant-loop-sector
invariant-loop-sector l = Settling l.initial.rows.items l.rows.items l.sector-items l.sector-index

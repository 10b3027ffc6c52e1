use Rattle.lfs_device.proofs.Spoiling.{Losing}
use Rattle.lfs_device.proofs.units.lose_unit.Given as goal

abbrev pub invariant-loop-place : goal.invariant-loop-place
invariant-loop-place l = Losing l.initial.rows.items l.rows.items l.begin l.place

use Rattle.lfs_device.specs.Units.{unit_of}
use Rattle.lfs_device.proofs.Spoiling.{Spoiling}
use Rattle.lfs_device.proofs.units.spoil.Given as goal

abbrev pub invariant-loop-sector : goal.invariant-loop-sector
invariant-loop-sector l = Spoiling (unit_of l.units) l.initial.rows.items l.rows.items l.sector-items l.sector-index

-- Devices whose units lie within those of their volume.
use Rattle.std.proofs.Common.{ap}
use Rattle.lfs_model.specs.Checkpoint.{unit_sectors}
use Rattle.lfs_model.specs.Device.{DeviceState, in_units}
use Rattle.lfs_model.specs.UnitLaws.{unit_by}
use Rattle.lfs_log.specs.Mounting.{HasWholeUnits}

-- sectors lie within any
pub sectors_whole : (d : DeviceState) → HasWholeUnits (in_units (λ k. k) d)
sectors_whole d k is i j same = ap (unit_by (unit_sectors k)) same

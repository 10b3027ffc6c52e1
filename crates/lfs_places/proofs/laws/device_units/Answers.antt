use Rattle.lfs_places.proofs.DeviceUnits
use Rattle.lfs_places.proofs.laws.device_units.Goals as goal

pub returns : goal.returns
returns c = record { device = DeviceUnits.device_units; placed = DeviceUnits.placed_units }

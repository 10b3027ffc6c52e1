-- What a function that only reads tells a device.
use Rattle.std.specs.Prelude.{◌≡◌}
use Rattle.lfs_model.specs.Device.{DeviceState}

-- the device is told no order: what it was told is what it was told before
abbrev pub TellsNothing : DeviceState → DeviceState → Type 0
TellsNothing old new = new.told ≡ old.told

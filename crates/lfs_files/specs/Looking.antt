-- What a call that only reads leaves of the device.
use Rattle.std.specs.Prelude.{◌≡◌}
use Rattle.lfs_model.specs.Device.{DeviceState, IsUntouched, Carries, Elapses}

-- A call that only reads leaves the device as it is.
pub record Looks (d d' : DeviceState) : Type 0 where
  pub untouched : IsUntouched d d'
  pub carries : Carries d d'
  pub time : Elapses d d'
  pub told : d'.told ≡ d.told

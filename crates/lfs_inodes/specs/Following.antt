-- What a call that follows pointers leaves of the device.
use Rattle.std.specs.Prelude.{◌≡◌, ◌<◌, Result, OnOk, IsErrOf}
use Rattle.lfs_model.specs.Device.{DeviceState}
use Rattle.lfs_device.specs.declared.device.ReadFault.{ReadFault}
use Rattle.lfs_device.specs.declared.device.ReadFault.TheVariants as fault
use Rattle.lfs_files.specs.Looking.{Looks}

-- It only reads, and says exactly whether a call of the device failed.
pub record FollowsPointers {A : Type 0} (d d' : DeviceState) (result : Result A ReadFault) : Type 0 where
  pub failed : IsErrOf result fault.Failed → d.failures < d'.failures
  pub no_failure : OnOk result (d'.failures ≡ d.failures)
  pub no_failure_unreadable : IsErrOf result fault.Unreadable → d'.failures ≡ d.failures
  pub looks : Looks d d'

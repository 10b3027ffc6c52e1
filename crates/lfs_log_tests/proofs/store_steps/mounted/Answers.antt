use Rattle.lfs_device.specs.MemoryDevice.{device_state}
use Rattle.lfs_store.proofs.of_log.WholeUnits.{sectors_whole}
use Rattle.lfs_log_tests.proofs.store_steps.mounted.Goals as goal

pub open-requires : goal.open-requires
open-requires c = sectors_whole (device_state c.new.result)

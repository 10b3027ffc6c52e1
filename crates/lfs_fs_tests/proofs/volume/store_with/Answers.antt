use Rattle.lfs_device.specs.MemoryDevice.{device_state}
use Rattle.lfs_fs.proofs.WholeUnits.{sectors_whole}
use Rattle.lfs_fs_tests.proofs.volume.store_with.Goals as goal

pub open-requires : goal.open-requires
open-requires c = sectors_whole (device_state c.new.result)

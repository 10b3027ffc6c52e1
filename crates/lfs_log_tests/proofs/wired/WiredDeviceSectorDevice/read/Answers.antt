use Rattle.std.proofs.Common.{subst}
use Rattle.lfs_model.specs.Device.{Carries}
use Rattle.lfs_device.specs.MemoryDevice.{device_state}
use Rattle.lfs_device.specs.declared.memory.MemDevice.{MemDevice}
use Rattle.lfs_log_tests.specs.Wired.{bearing_nothing, bearing_nothing_carries}
use Rattle.lfs_log_tests.proofs.wired.WiredDeviceSectorDevice.read.Goals as goal

pub returns-clause-carries : goal.returns-clause-carries
returns-clause-carries c =
    subst (λ (d : MemDevice). Carries (bearing_nothing (device_state d)) (bearing_nothing (device_state c.read.new.self)))
    c.take_faults.ensures (bearing_nothing_carries c.read.ensures.carries)

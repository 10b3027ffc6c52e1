use Rattle.std.proofs.Common.{subst}
use Rattle.lfs_model.specs.Device.{Carries, CrashWritesUnit}
use Rattle.lfs_device.specs.MemoryDevice.{device_state}
use Rattle.lfs_device.specs.declared.memory.MemDevice.{MemDevice}
use Rattle.lfs_log_tests.specs.Wired.{bearing_nothing, bearing_nothing_carries}
use Rattle.lfs_log_tests.proofs.wired.WiredDeviceSectorDevice.write.Goals as goal

pub returns-clause-crash : goal.returns-clause-crash
returns-clause-crash c =
    subst (λ (d : MemDevice). CrashWritesUnit c.args.sector c.args.bytes.now (device_state d) (device_state c.write.new.self))
    c.take_faults.ensures c.write.ensures.crash

pub returns-clause-carries : goal.returns-clause-carries
returns-clause-carries c =
    subst (λ (d : MemDevice). Carries (bearing_nothing (device_state d)) (bearing_nothing (device_state c.write.new.self)))
    c.take_faults.ensures (bearing_nothing_carries c.write.ensures.carries)

use Rattle.std.proofs.Common.{sym, subst}
use Rattle.lfs_model.specs.Device.{Only}
use Rattle.lfs_device.specs.MemoryDevice.{device_state}
use Rattle.lfs_device.specs.declared.memory.MemDevice.{MemDevice}
use Rattle.lfs_command.proofs.simulation.start.Goals as goal

pub returns-clause-alone : goal.returns-clause-alone
returns-clause-alone c =
    subst (λ (d : MemDevice). Only (device_state d).content (device_state d)) (sym c.stop_at.ensures)
    (c.in_default-format_with.ensures.made.durable tt)

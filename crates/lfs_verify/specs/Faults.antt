-- Why a device isn't mounted: the names of the faults, and what each of them says.
use Rattle.std.specs.Prelude.{◌<◌, ◌≤◌, ◌≡◌, ◌+◌, ◌*◌, ℕ, List, length, codes}
use Rattle.lfs_model.specs.declared.limits.TheConstants.{LEAST_SECTORS, SECTOR_LEN}
use Rattle.lfs_model.specs.Checkpoint.{CheckpointValue}
use Rattle.lfs_model.specs.Content.{block}
use Rattle.lfs_model.specs.Device.{DeviceState}
use Rattle.lfs_model.specs.Stands.{LogMap, HoldsAt, StandsLog}
use Rattle.lfs_verify.specs.declared.fault.MountFault.{MountFault}
use Rattle.lfs_verify.specs.declared.fault.MountFault.TheVariants.{NoMemory, Device, TooSmall, NoCheckpoint, Damaged}

-- the name of a fault, without the stage of damage
abbrev pub mount_fault_name : MountFault → List ℕ
mount_fault_name NoMemory = codes "NoMemory"
mount_fault_name Device = codes "Device"
mount_fault_name TooSmall = codes "TooSmall"
mount_fault_name NoCheckpoint = codes "NoCheckpoint"
mount_fault_name (Damaged code) = codes "Damaged"

-- the device has fewer sectors than any volume
abbrev pub IsBelowAll : DeviceState → Type 0
IsBelowAll d = d.size < LEAST_SECTORS

-- A fault that isn't of memory: Device says the one, each other fault the other.
abbrev pub IsFault : Type 0 → Type 0 → MountFault → Type 0
IsFault failed lacking NoMemory = ⊥
IsFault failed lacking Device = failed
IsFault failed lacking TooSmall = lacking
IsFault failed lacking NoCheckpoint = lacking
IsFault failed lacking (Damaged code) = lacking

-- no block of a volume of N segments stands at this address
abbrev pub LacksBlock : DeviceState → DeviceState → ℕ → ℕ → Type 0
LacksBlock d d' N at = d'.keeps_model → 2 ≤ at → at < 2 + 64 * N → length (block d.content at) ≡ SECTOR_LEN → ⊥

-- the content holds no log map by this checkpoint
abbrev pub LacksTables : DeviceState → DeviceState → CheckpointValue → Type 0
LacksTables d d' k = (m : LogMap) → d'.keeps_model → HoldsAt d.content k m → ⊥

-- it stands for none
abbrev pub LacksLog : DeviceState → DeviceState → Type 0
LacksLog d d' = (m : LogMap) → d'.keeps_model → StandsLog d.content m → ⊥

-- a call of the device failed, or the block, the tables, the log map isn't there
abbrev pub IsBlockFault : DeviceState → DeviceState → ℕ → ℕ → MountFault → Type 0
IsBlockFault d d' N at = IsFault (d.failures < d'.failures) (LacksBlock d d' N at)

abbrev pub IsTableFault : DeviceState → DeviceState → CheckpointValue → MountFault → Type 0
IsTableFault d d' k = IsFault (d.failures < d'.failures) (LacksTables d d' k)

abbrev pub IsOpenFault : DeviceState → DeviceState → MountFault → Type 0
IsOpenFault d d' = IsFault (d.failures < d'.failures) (LacksLog d d')

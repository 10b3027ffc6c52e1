-- What the end of a commit does: the checkpoint that leads to all that is out.
use Rattle.std.specs.Prelude.{◌≡◌, ◌<◌, ◌≤◌, ◌+◌, ◌*◌, ℕ, false, [], length, get_or}
use Rattle.lfs_model.specs.Checkpoint.{CheckpointValue, FitsCheckpoint, MayHave, layout_version, most_unit_power, shape_of}
use Rattle.lfs_model.specs.Crash.{StandsForOn}
use Rattle.lfs_model.specs.declared.limits.TheConstants.{MAP_BLOCKS, USAGE_BLOCKS}
use Rattle.lfs_model.specs.Device.{DeviceState, Carries, Elapses, IsUntouched, LeavesOnly, AllLeft}
use Rattle.lfs_model.specs.Encodes.{IsLogMap}
use Rattle.lfs_model.specs.Stands.{LogMap}
use Rattle.lfs_model.specs.TreeOf.{dropped}
use Rattle.lfs_memory.specs.segments.Table.{address_of, stale_of}
use Rattle.lfs_memory.specs.segments.Steps.{Releases}
use Rattle.lfs_memory.specs.segments.Spare.{spare_in}
use Rattle.lfs_memory.specs.inodes.MapValue.{block_in}
use Rattle.lfs_memory.specs.declared.memory.LogMemory.{LogMemory}
use Rattle.lfs_memory.specs.Memory.{IsMemory, IsLog}
use Rattle.lfs_log.specs.Settling.{blocks_in}

-- a sync, done or failed
pub record Syncs (d d' : DeviceState) : Type 0 where
  pub untouched : IsUntouched d d'
  pub carries : Carries d d'
  pub time : Elapses d d'
  pub told : length d'.told ≤ length d.told + 1

-- all blocks are out, and in many segments nothing lives: the checkpoint has them as clean
pub record IsAllOut (v : LogMemory) : Type 0 where
  pub chunk : v.chunk.names ≡ []
  pub dirty : v.dirty.blocks ≡ []
  pub maps : (j : ℕ) → block_in v.map j ≡ 1 → ⊥
  pub fresh : (j : ℕ) → j < blocks_in v.usage → stale_of v.usage j ≡ false
  pub many : length v.usage.segments ≤ 8 * spare_in v.usage.segments

-- the checkpoint of this version after this number
pub record IsNext (v : LogMemory) (version old : ℕ) (next : CheckpointValue) : Type 0 where
  pub fits : FitsCheckpoint next
  pub number : next.number ≡ old + 1
  pub segments : next.segments ≡ length v.usage.segments
  pub same_version : layout_version next ≡ version
  pub unit : v.usage.unit ≤ most_unit_power version → next.unit_power ≡ v.usage.unit
  pub map : (j : ℕ) → j < MAP_BLOCKS → get_or next.map j 0 ≡ block_in v.map j
  pub usage : (j : ℕ) → j < USAGE_BLOCKS → get_or next.usage j 0 ≡ address_of v.usage j

-- memory and device hold log map m, of this version, and the acknowledged checkpoint, of this number, stands for m0
pub record IsAcknowledged (d : DeviceState) (v : LogMemory) (version number : ℕ) (k : CheckpointValue) (m0 m : LogMap) : Type 0 where
  pub log : IsLog d v k m0 m
  pub map : IsLogMap (dropped m)
  pub same : k.number ≡ number
  pub same_version : m.version ≡ version
  pub fits : MayHave k version

-- a stop at any moment leaves what was acknowledged, or all that is out, on a volume of the same shape
abbrev pub LeavesEither : DeviceState → DeviceState → LogMemory → ℕ → ℕ → Type 0
LeavesEither d d' v version number = (k : CheckpointValue) (m0 m : LogMap) → d'.keeps_model → IsAcknowledged d v version number k m0 m
    → LeavesOnly d d' (StandsForOn (shape_of k) m0 (dropped m))

-- The next checkpoint is acknowledged.
pub record Publishes (d d' : DeviceState) (v v' : LogMemory) (version number : ℕ) : Type 0 where
  pub carries : Carries d d'
  pub memory : IsMemory v'
  pub segments : length v'.usage.segments ≡ length v.usage.segments
  pub released : Releases v.usage v'.usage
  pub no_failure : d'.failures ≡ d.failures
  pub log : (k : CheckpointValue) (m0 m : LogMap) → d'.keeps_model → IsAcknowledged d v version number k m0 m
      → (next : CheckpointValue) × (next.number ≡ number + 1) × IsLog d' v' next (dropped m) m × (shape_of next ≡ shape_of k)
  pub moment : LeavesEither d d' v version number

-- A failure of the device ended it: a stop from now on leaves the one or the other.
pub record PublishFails (d d' : DeviceState) (v : LogMemory) (version number : ℕ) : Type 0 where
  pub carries : Carries d d'
  pub failed : d.failed_orders < d'.failed_orders
  pub left : (k : CheckpointValue) (m0 m : LogMap) → d'.keeps_model → IsAcknowledged d v version number k m0 m
      → AllLeft d' (StandsForOn (shape_of k) m0 (dropped m))
  pub moment : LeavesEither d d' v version number

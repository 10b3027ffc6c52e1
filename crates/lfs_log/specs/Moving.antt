-- What the steps of a pass of the cleaner do: blocks come into memory and go to other segments, one at a time.
use Rattle.std.specs.Prelude.{◌≡◌, ◌<◌, ◌≤◌, ◌+◌, ℕ, zero, suc, List, length, cond, nat_lt, Result, OnOk, IsErrOf, slice_index_or}
use Rattle.lfs_model.specs.Checkpoint.{CheckpointValue}
use Rattle.lfs_model.specs.declared.limits.TheConstants.{DIRECT_BLOCKS}
use Rattle.lfs_model.specs.Device.{DeviceState, Carries}
use Rattle.lfs_model.specs.Entry.{Entry, Data, Leaf, Double, Inode, Map, Usage}
use Rattle.lfs_model.specs.Memory.{Memory}
use Rattle.lfs_model.specs.Stands.{LogMap}
use Rattle.lfs_memory.specs.files.declared.fault.LogFault.{LogFault}
use Rattle.lfs_memory.specs.files.declared.fault.LogFault.TheVariants as fault
use Rattle.lfs_memory.specs.declared.memory.LogMemory.{LogMemory}
use Rattle.lfs_memory.specs.Memory.{IsLog, IsMemory, Quiet, Stops, room_of}
use Rattle.lfs_memory.specs.Moving.{HoldsOn, Spares}
use Rattle.lfs_memory.specs.segments.Table.{kept_of}
use Rattle.lfs_memory.specs.inodes.Key.{entry_of}
use Rattle.lfs_memory.specs.inodes.declared.key.BlockKey.{BlockKey}
use Rattle.lfs_log.specs.Brought.{HasBrought, IsOut, OutNumber, Passes, StaysOut}
use Rattle.lfs_log.specs.Cleaning.{IsCleanable}
use Rattle.lfs_log.specs.Groups.{group_of}
use Rattle.lfs_log.specs.Relocating.{IsAmong, IsDataBlock, IsInOrder}
use Rattle.lfs_log.specs.Telling.{orders_due}

-- how many blocks there are from a block up to its inode
abbrev depth_of_leaf : ℕ → ℕ
depth_of_leaf zero = 2
depth_of_leaf (suc q) = 3

abbrev pub depth : Entry → ℕ
depth (Data n i) = cond (nat_lt i DIRECT_BLOCKS) 2 4
depth (Leaf n q) = depth_of_leaf q
depth (Double n) = 2
depth (Inode n) = 1
depth (Map j) = 1
depth (Usage j) = 1

-- Some steps went well, or left the log as it was: of `left` blocks that might come into memory `left'` may still.
pub record HasMoved (d d' : DeviceState) (v v' : LogMemory) (left left' : ℕ) : Type 0 where
  pub carries : Carries d d'
  pub memory : IsMemory v'
  pub order : IsInOrder v'.dirty
  pub segments : length v'.usage.segments ≡ length v.usage.segments
  pub capacity : v'.dirty.capacity ≡ v.dirty.capacity
  pub kept : (s : ℕ) → kept_of v'.usage s ≡ kept_of v.usage s
  pub cleanable : (s : ℕ) → IsCleanable v.usage s → IsCleanable v'.usage s
  -- a block that comes in takes a place and gives an order at most, as it goes out
  pub room : room_of v + length v'.dirty.blocks + left' ≤ room_of v' + length v.dirty.blocks + left
  pub tells : orders_due d' v' + length v'.dirty.blocks + left' ≤ orders_due d v + length v.dirty.blocks + left
  pub spares : Spares d d' v v'
  pub quiet : Quiet d d' v
  pub log : (k : CheckpointValue) (m0 m : LogMap) → d'.keeps_model → IsLog d v k m0 m → IsLog d' v' k m0 m

-- a failure of the device ended them, at the order behind those at the latest
pub record HaltsMoving (d d' : DeviceState) (v v' : LogMemory) (left : ℕ) : Type 0 where
  pub stops : Stops d d' v
  pub room : room_of v ≤ room_of v' + length v.dirty.blocks + left
  pub tells : orders_due d' v' ≤ orders_due d v + length v.dirty.blocks + left + 1

-- where memory and device hold a log map of which this holds, that does
abbrev pub WhereLog : DeviceState → DeviceState → LogMemory → (Memory → Type 0) → (Memory → Type 0) → Type 0
WhereLog d d' v P Q = (k : CheckpointValue) (m0 m : LogMap) → d'.keeps_model → (is : IsLog d v k m0 m)
    → P is.running.memory → Q is.running.memory

-- How a function ends that moves blocks: done, so that R holds of what memory was and is; refused where P held; or halted.
pub record EndsMoving {T : Type 0} (d d' : DeviceState) (v v' : LogMemory) (left left' : ℕ) (P : Memory → Type 0)
    (R : Memory → Memory → Type 0) (Lacks : Memory → Type 0) (result : Result T LogFault) : Type 0 where
  pub carries : Carries d d'
  pub moves : (IsErrOf result fault.Halted → ⊥) → HasMoved d d' v v' left left'
  pub done : OnOk result (HoldsOn d d' v v' R)
  pub no_failure : OnOk result (d'.failures ≡ d.failures)
  pub failed : IsErrOf result fault.Device → WhereLog d d' v P (λ M. d.failures < d'.failures)
  pub full : IsErrOf result fault.Full → WhereLog d d' v P Lacks
  pub halted : IsErrOf result fault.Halted → HaltsMoving d d' v v' left

-- what exists goes on to exist
abbrev pub StaysStored : Memory → Memory → Type 0
StaysStored M M' = (y : Entry) → 0 < M.at y → 0 < M'.at y

-- blocks of a pass over these segments were moved, from one group to another
pub record Moved (victims : List ℕ) (left left' group group' : ℕ) (M M' : Memory) : Type 0 where
  pub passes : Passes victims left left' group group' M M'
  pub out : StaysOut victims M M'
  pub stored : StaysStored M M'

-- one block more was wanted than may come in
abbrev pub Lacks : List ℕ → ℕ → ℕ → Memory → Type 0
Lacks victims left group M = (total : ℕ) (M0 : Memory) → HasBrought victims total left group M0 M → OutNumber victims total M0

abbrev pub Anywhere : Memory → Type 0
Anywhere M = Unit {0}

abbrev pub IsStored : Entry → Memory → Type 0
IsStored x M = 0 < M.at x

-- blocks above a group came into memory, and no block of data moved
pub record BringsAbove (victims : List ℕ) (left left' group : ℕ) (M M' : Memory) : Type 0 where
  pub moved : Moved victims left left' group group M M'
  pub same : (y : Entry) → IsDataBlock y → M'.at y ≡ M.at y

-- the block stands in these segments
abbrev pub StandsAmong : List ℕ → Entry → Memory → Type 0
StandsAmong victims x M = (2 ≤ M.at x) × IsAmong victims (M.at x)

-- and has left them
abbrev pub MovesOut : List ℕ → ℕ → ℕ → Entry → Memory → Memory → Type 0
MovesOut victims left left' x M M' = Moved victims left left' (group_of x) (group_of x) M M' × IsOut victims M' x

abbrev pub Never : Memory → Type 0
Never M = ⊥

-- all blocks of these keys have, and none that had comes back
pub record MovesAll (victims : List ℕ) (keys : List BlockKey) (M M' : Memory) : Type 0 where
  pub out : StaysOut victims M M'
  pub each : (i : ℕ) (d : BlockKey) → i < length keys → IsOut victims M' (entry_of (slice_index_or keys i d))

-- of the keys the first ones have been gone through
pub record MovesFirst (victims : List ℕ) (keys : List BlockKey) (left left' upto group : ℕ) (M M' : Memory) : Type 0 where
  pub moved : Moved victims left left' 0 group M M'
  pub each : (i : ℕ) (d : BlockKey) → i < upto → IsOut victims M' (entry_of (slice_index_or keys i d))

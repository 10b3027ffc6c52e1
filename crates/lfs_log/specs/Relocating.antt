-- Blocks come into memory one by one, to be written elsewhere.
use Rattle.std.specs.Prelude.{◌≡◌, ◌<◌, ◌≤◌, ◌⊎◌, T, ℕ, Bool, true, List, length, Result, IfOk}
use Rattle.std.specs.Prelude.{IsTrue, IsFalse}
use Rattle.std.specs.FinMap.{is_sorted}
use Rattle.std.specs.Ordering.{nat_cmp}
use Rattle.lfs_model.specs.Checkpoint.{CheckpointValue}
use Rattle.lfs_model.specs.Counting.{segment_of}
use Rattle.lfs_model.specs.declared.limits.TheConstants.{CHECKPOINT_SLOTS}
use Rattle.lfs_model.specs.Device.{DeviceState}
use Rattle.lfs_model.specs.Entry.{Entry, Data, Leaf, Double, Inode, Map, Usage}
use Rattle.lfs_model.specs.Members.{IsIn}
use Rattle.lfs_model.specs.Memory.{Memory}
use Rattle.lfs_model.specs.Stands.{LogMap}
use Rattle.lfs_memory.specs.inodes.Blocks.{TableValue, number_at}
use Rattle.lfs_memory.specs.inodes.Code.{IsCode}
use Rattle.lfs_memory.specs.segments.Steps.{Lifts, PutsPlace}
use Rattle.lfs_memory.specs.segments.Table.{UsageTable, address_of, clean_in}
use Rattle.lfs_memory.specs.declared.memory.LogMemory.{LogMemory}
use Rattle.lfs_memory.specs.declared.lifting.LiftFault.{LiftFault}
use Rattle.lfs_memory.specs.Lifting.{EndsLifting, Gathers, HasTraces, IsCountedAbove, IsInMemory}
use Rattle.lfs_memory.specs.Memory.{IsLoose, IsMemory}
use Rattle.lfs_memory.specs.Present.{Looks}

-- A call by which blocks come into memory at most: the log map is the same.
pub record Relocates (d d' : DeviceState) (v v' : LogMemory) : Type 0 where
  pub looks : Looks d d'
  pub memory : IsMemory v'
  pub segments : length v'.usage.segments ≡ length v.usage.segments
  pub clean : clean_in v'.usage.segments ≡ clean_in v.usage.segments
  pub chunk : v'.chunk ≡ v.chunk
  pub capacity : v'.dirty.capacity ≡ v.dirty.capacity
  pub stay : (x : Entry) → IsInMemory v x → IsInMemory v' x
  pub gathers : Gathers d d' v v'

-- ---- which blocks come into memory

-- the numbers of a table of blocks rise, and each is a block's
pub record IsInOrder (t : TableValue) : Type 0 where
  pub sorted : T (is_sorted nat_cmp t.blocks)
  pub codes : (i : ℕ) → i < length t.blocks → IsCode (number_at t.blocks i)

-- this block at most comes in
abbrev pub BringsOne : LogMemory → LogMemory → Entry → Type 0
BringsOne v v' x = (y : Entry) → IsInMemory v' y → IsInMemory v y ⊎ (y ≡ x)

abbrev pub IsDataBlock : Entry → Type 0
IsDataBlock (Data n i) = Unit {0}
IsDataBlock (Leaf n q) = ⊥
IsDataBlock (Double n) = ⊥
IsDataBlock (Inode n) = ⊥
IsDataBlock (Map j) = ⊥
IsDataBlock (Usage j) = ⊥

-- addresses in some segments
abbrev pub IsAmong : List ℕ → ℕ → Type 0
IsAmong segments at = IsIn segments (segment_of at)

-- the block stands on the device, at such an address if it is one of data
abbrev pub StandsWhere : (ℕ → Type 0) → Memory → Entry → Type 0
StandsWhere P M x = (CHECKPOINT_SLOTS ≤ M.at x) × (IsDataBlock x → P (M.at x))

-- where memory and device hold a log map, this block isn't stored
abbrev pub IsNoBlock : DeviceState → LogMemory → Entry → Type 0
IsNoBlock d v x = (k : CheckpointValue) (m0 m : LogMap) → d.keeps_model → (is : IsLoose d v k m0 m) → is.running.memory.at x ≡ 0

-- A call that brings this block into memory, if it is stored: whether it is there then.
pub record EndsBringing (d d' : DeviceState) (v v' : LogMemory) (x : Entry) (result : Result Bool LiftFault) : Type 0 where
  pub relocates : Relocates d d' v v'
  pub inside : IfOk result (λ found. IsTrue found → IsInMemory v' x)
  pub none : IfOk result (λ found. IsFalse found → IsNoBlock d' v' x)
  pub ends : EndsLifting d d' v v' result

-- Usage block j leaves its address, and isn't as the device has it.
pub record UsageLeaves (old new : UsageTable) (j : ℕ) : Type 0 where
  pub above : CHECKPOINT_SLOTS ≤ address_of old j
  pub lifted : UsageTable
  pub lifts : Lifts old lifted (segment_of (address_of old j)) true
  pub puts : PutsPlace lifted new j 1 true

pub record UsageLeavesIn (v v' : LogMemory) (j : ℕ) : Type 0 where
  pub usage : UsageLeaves v.usage v'.usage j
  pub map : v'.map ≡ v.map
  pub dirty : v'.dirty ≡ v.dirty
  pub chunk : v'.chunk ≡ v.chunk

-- it isn't counted where it stands
pub record IsUsageLost (v : LogMemory) (j : ℕ) : Type 0 where
  pub above : CHECKPOINT_SLOTS ≤ address_of v.usage j
  pub lost : IsCountedAbove v.usage (address_of v.usage j) true → ⊥

-- the memory of a log after a call, traced from that before it
abbrev pub Traced : DeviceState → LogMemory → CheckpointValue → LogMap → LogMap → Memory → (Memory → Type 0) → Type 0
Traced d' v' k m0 m before P = (is' : IsLoose d' v' k m0 m) × HasTraces before is'.running.memory × P is'.running.memory

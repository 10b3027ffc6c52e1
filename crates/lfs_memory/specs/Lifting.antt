-- Blocks come into memory so that they may change; what memory and device hold stays the same log map.
use Rattle.std.specs.Prelude.{◌≡◌, ◌<◌, ◌≤◌, ◌+◌, ℕ, Bool, true, false, List, length, Some, None, Result, OnOk, IsErrOf}
use Rattle.lfs_model.specs.Checkpoint.{CheckpointValue}
use Rattle.lfs_model.specs.Counting.{segment_of}
use Rattle.lfs_model.specs.Device.{DeviceState}
use Rattle.lfs_model.specs.Entry.{Entry, Inode}
use Rattle.lfs_model.specs.Memory.{Memory}
use Rattle.lfs_model.specs.Running.{IsSet}
use Rattle.lfs_model.specs.Staging.{Fetches}
use Rattle.lfs_model.specs.Stands.{LogMap}
use Rattle.lfs_segments.specs.Table.{UsageTable, used_of, live_of, held_of, kept_of, clean_in}
use Rattle.lfs_segments.specs.Steps.{Lifts}
use Rattle.lfs_inodes.specs.Blocks.{blocks_of}
use Rattle.lfs_inodes.specs.MapValue.{address_in, block_in}
use Rattle.lfs_memory.specs.declared.memory.LogMemory.{LogMemory}
use Rattle.lfs_memory.specs.declared.lifting.LiftFault.{LiftFault}
use Rattle.lfs_memory.specs.declared.lifting.LiftFault.TheVariants as fault
use Rattle.lfs_memory.specs.Memory.{IsMemory, IsLoose}
use Rattle.lfs_memory.specs.Present.{Looks, FailsFromDevice}

abbrev pub IsInMemory : LogMemory → Entry → Type 0
IsInMemory v x = (b : List ℕ) × (blocks_of v.dirty x ≡ Some b)

-- A call that brings so many blocks into memory at most, be it done or ended by a fault.
pub record Prepares (d d' : DeviceState) (v v' : LogMemory) (most : ℕ) : Type 0 where
  pub looks : Looks d d'
  pub memory : IsMemory v'
  pub segments : length v'.usage.segments ≡ length v.usage.segments
  pub clean : clean_in v'.usage.segments ≡ clean_in v.usage.segments
  pub used : (s : ℕ) → used_of v'.usage s ≡ used_of v.usage s
  pub kept : (s : ℕ) → kept_of v'.usage s ≡ kept_of v.usage s
  pub chunk : v'.chunk ≡ v.chunk
  pub capacity : v'.dirty.capacity ≡ v.dirty.capacity
  pub few : length v'.dirty.blocks ≤ length v.dirty.blocks + most
  pub stay : (x : Entry) → IsInMemory v x → IsInMemory v' x
  pub hidden : v'.map.hidden ≡ v.map.hidden
  pub mapped : (j : ℕ) → block_in v.map j ≡ 1 → block_in v'.map j ≡ 1
  pub absent : (l : ℕ) → address_in v.map l ≡ 0 → address_in v'.map l ≡ 0
  pub log : (k : CheckpointValue) (m0 m : LogMap) → d'.keeps_model → IsLoose d v k m0 m → IsLoose d' v' k m0 m

-- How such a call ends: it counts no failure where it is done; else memory is full, or a call of the device failed.
pub record EndsLifting {T : Type 0} (d d' : DeviceState) (v v' : LogMemory) (result : Result T LiftFault) : Type 0 where
  pub full : IsErrOf result fault.Full → v'.dirty.capacity.limit ≤ length v'.dirty.blocks
  pub failed : IsErrOf result fault.Device → FailsFromDevice d d' v
  pub no_failure : OnOk result (d'.failures ≡ d.failures)

-- no block has an address that it hadn't before
abbrev pub HasTraces : Memory → Memory → Type 0
HasTraces M M' = (y : Entry) → 2 ≤ M'.at y → M.at y ≡ M'.at y

-- Blocks leave their addresses for memory alone: no segment gets another one.
pub record Gathers (d d' : DeviceState) (v v' : LogMemory) : Type 0 where
  pub used : (s : ℕ) → used_of v'.usage s ≡ used_of v.usage s
  pub kept : (s : ℕ) → kept_of v'.usage s ≡ kept_of v.usage s
  pub traces : (k : CheckpointValue) (m0 m : LogMap) → d'.keeps_model → (is : IsLoose d v k m0 m)
      → (is' : IsLoose d' v' k m0 m) × HasTraces is.running.memory is'.running.memory

-- the block at this address is counted where it stands, among those that live there or those that hold the segment
pub record IsCountedAbove (usage : UsageTable) (at : ℕ) (lives : Bool) : Type 0 where
  pub above : 2 ≤ at
  pub inside : segment_of at < length usage.segments
  pub live : lives ≡ true → 0 < live_of usage (segment_of at)
  pub held : lives ≡ false → 0 < held_of usage (segment_of at)

-- ---- what happens in memory

-- a block that was read comes in
pub record Brings (v v' : LogMemory) (x : Entry) (address : ℕ) (lives : Bool) (bytes : List ℕ) : Type 0 where
  pub usage : Lifts v.usage v'.usage (segment_of address) lives
  pub dirty : Fetches (blocks_of v.dirty) (blocks_of v'.dirty) x bytes
  pub few : length v'.dirty.blocks ≤ length v.dirty.blocks + 1
  pub capacity : v'.dirty.capacity ≡ v.dirty.capacity
  pub chunk : v'.chunk ≡ v.chunk
  pub hidden : v'.map.hidden ≡ v.map.hidden
  pub blocks : v'.map.blocks ≡ v.map.blocks
  pub inode : (n : ℕ) → x ≡ Inode n → IsSet (address_in v.map) (address_in v'.map) n 1
  pub others : ((n : ℕ) → x ≡ Inode n → ⊥) → v'.map ≡ v.map

-- block j of the inode map will be written
pub record MapLifts (v v' : LogMemory) (j : ℕ) : Type 0 where
  pub lifted : 2 ≤ block_in v.map j → Lifts v.usage v'.usage (segment_of (block_in v.map j)) true
  pub added : block_in v.map j ≡ 0 → v'.usage ≡ v.usage
  pub same : block_in v.map j ≡ 1 → v' ≡ v
  pub blocks : IsSet (block_in v.map) (block_in v'.map) j 1
  pub addresses : v'.map.addresses ≡ v.map.addresses
  pub hidden : v'.map.hidden ≡ v.map.hidden
  pub dirty : v'.dirty ≡ v.dirty
  pub chunk : v'.chunk ≡ v.chunk

-- the block of the inode map that isn't counted where it stands
pub record IsMapLost (v : LogMemory) (j : ℕ) : Type 0 where
  pub above : 2 ≤ block_in v.map j
  pub lost : IsCountedAbove v.usage (block_in v.map j) true → ⊥

-- where memory and device hold a log map, this file isn't there
abbrev pub IsAbsent : DeviceState → DeviceState → LogMemory → ℕ → Type 0
IsAbsent d d' v n = (k : CheckpointValue) (m0 m : LogMap) → d'.keeps_model → IsLoose d v k m0 m → m.header n ≡ None

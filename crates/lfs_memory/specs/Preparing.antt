-- What has to be in memory before a batch of changes: then these changes call no device.
use Rattle.std.specs.Prelude.{◌≡◌, ◌<◌, ◌+◌, ◌-◌, ◌/◌, ◌==◌, ◌&&◌, ◌⊎◌, cond, nat_lt, ℕ, Bool, List, [], ◌∷◌, length, Option, Some, None}
use Rattle.std.specs.Prelude.{◌≤◌, Result, OnOk, IsErrOf}
use Rattle.std.specs.List.{AllByRecursion}
use Rattle.lfs_model.specs.declared.limits.TheConstants.{BLOCK_FILES, BLOCK_POINTERS, DIRECT_BLOCKS}
use Rattle.lfs_model.specs.Checkpoint.{CheckpointValue}
use Rattle.lfs_model.specs.Device.{DeviceState}
use Rattle.lfs_model.specs.Entry.{Data, Inode}
use Rattle.lfs_model.specs.Stands.{LogMap}
use Rattle.lfs_inodes.specs.Blocks.{blocks_of}
use Rattle.lfs_inodes.specs.MapValue.{address_in, block_in}
use Rattle.lfs_memory.specs.declared.batch.BlockEdit.{BlockEdit}
use Rattle.lfs_memory.specs.declared.batch.HeaderEdit.{HeaderEdit}
use Rattle.lfs_memory.specs.declared.lifting.LiftFault.{LiftFault}
use Rattle.lfs_memory.specs.declared.lifting.LiftFault.TheVariants as fault
use Rattle.lfs_memory.specs.declared.memory.LogMemory.{LogMemory}
use Rattle.lfs_memory.specs.Changing.{HasAbove}
use Rattle.lfs_memory.specs.Memory.{IsLoose}
use Rattle.lfs_memory.specs.Lifting.{IsInMemory}

-- The block above data block i of file n is in memory, or the file isn't there and its inode will be that block.
abbrev pub HasParent : LogMemory → ℕ → ℕ → Type 0
HasParent v n i = HasAbove (blocks_of v.dirty) (Data n i) ⊎ ((address_in v.map n ≡ 0) × (i < DIRECT_BLOCKS))

abbrev pub AreBlocksReady : LogMemory → List BlockEdit → Type 0
AreBlocksReady v edits = AllByRecursion (λ (e : BlockEdit). HasParent v e.number e.index) edits

-- The inode of file n is in memory, or the file isn't there; a name that it gets or keeps will be written.
pub record IsHeaderReady (v : LogMemory) (n links : ℕ) : Type 0 where
  pub inside : IsInMemory v (Inode n) ⊎ (address_in v.map n ≡ 0)
  pub mapped : 0 < links → block_in v.map (n / BLOCK_FILES) ≡ 1

abbrev pub AreHeadersReady : LogMemory → List HeaderEdit → Type 0
AreHeadersReady v edits = AllByRecursion (λ (e : HeaderEdit). IsHeaderReady v e.number e.header.links) edits

-- ---- how many blocks come into memory at most

-- memory takes fewer than so many more blocks
abbrev pub LacksRoom : LogMemory → ℕ → Type 0
LacksRoom v more = v.dirty.capacity.limit < length v.dirty.blocks + more

-- the block above a data block, by its place in the file
abbrev pub row_of : ℕ → ℕ
row_of i = cond (nat_lt i DIRECT_BLOCKS) 0 (1 + (i - DIRECT_BLOCKS) / BLOCK_POINTERS)

abbrev pub is_beside : BlockEdit → BlockEdit → Bool
is_beside a b = (a.number == b.number) && (row_of a.index == row_of b.index)

-- three for each block but those whose block above is that of the block before them
abbrev pub way_from : Option BlockEdit → BlockEdit → ℕ
way_from None e = 3
way_from (Some before) e = cond (is_beside before e) 0 3

abbrev pub ways_from : Option BlockEdit → List BlockEdit → ℕ
ways_from before [] = 0
ways_from before (e ∷ edits) = way_from before e + ways_from (Some e) edits

abbrev pub ways : List BlockEdit → ℕ
ways edits = ways_from None edits

-- ---- faults

-- a file that isn't there may get the blocks that its inode points to
abbrev pub IsWithin : LogMap → ℕ → ℕ → Type 0
IsWithin m n i = m.header n ≡ None → i < DIRECT_BLOCKS

abbrev pub AreWithin : LogMap → List BlockEdit → Type 0
AreWithin m edits = AllByRecursion (λ (e : BlockEdit). IsWithin m e.number e.index) edits

-- where memory and device hold a log map in which that is so, a call of the device failed
abbrev pub IsExcusedWithin : DeviceState → DeviceState → LogMemory → ℕ → ℕ → Type 0
IsExcusedWithin d d' v n i = (k : CheckpointValue) (m0 m : LogMap) → d'.keeps_model → IsLoose d v k m0 m → IsWithin m n i
    → d.failures < d'.failures

abbrev pub AreExcusedWithin : DeviceState → DeviceState → LogMemory → List BlockEdit → Type 0
AreExcusedWithin d d' v edits = (k : CheckpointValue) (m0 m : LogMap) → d'.keeps_model → IsLoose d v k m0 m → AreWithin m edits
    → d.failures < d'.failures

-- The block above data block i of file n is in memory, or memory has no room for the three blocks on the way, or a call of the device
-- failed where the file may have that block.
pub record EndsOnWay {T : Type 0} (d d' : DeviceState) (v v' : LogMemory) (n i : ℕ) (result : Result T LiftFault) : Type 0 where
  pub ready : OnOk result (HasParent v' n i)
  pub full : IsErrOf result fault.Full → v'.dirty.capacity.limit ≤ length v'.dirty.blocks
  pub short : IsErrOf result fault.Full → LacksRoom v 3
  pub failed : IsErrOf result fault.Device → IsExcusedWithin d d' v n i
  pub no_failure : OnOk result (d'.failures ≡ d.failures)

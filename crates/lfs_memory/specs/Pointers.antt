-- The pointers to data blocks of a file that one block above them has.
use Rattle.std.specs.Prelude.{◌≡◌, ◌<◌, ◌≤◌, ◌⊎◌, ◌+◌, ◌-◌, ◌==◌, ℕ, not, length, filter, get_or, Option, Some, None, IfSome}
use Rattle.std.specs.List.{range_with_len}
use Rattle.lfs_model.specs.declared.limits.TheConstants.{FILE_BLOCKS}
use Rattle.lfs_model.specs.Checkpoint.{CheckpointValue}
use Rattle.lfs_model.specs.Device.{DeviceState}
use Rattle.lfs_model.specs.Entry.{Inode}
use Rattle.lfs_model.specs.Stands.{LogMap}
use Rattle.lfs_model.specs.Totals.{stored_in}
use Rattle.lfs_inodes.specs.Blocks.{blocks_of}
use Rattle.lfs_inodes.specs.MapValue.{address_in}
use Rattle.lfs_inodes.specs.Present.{present, data_now}
use Rattle.lfs_memory.specs.declared.memory.LogMemory.{LogMemory}
use Rattle.lfs_memory.specs.declared.pointers.PointerRun.{PointerRun}
use Rattle.lfs_memory.specs.Numbers.{IsFileNumber}
use Rattle.lfs_memory.specs.Memory.{IsLoose}

-- a run has the pointer to block i of file n
pub record IsInRun (r : PointerRun) (n i : ℕ) : Type 0 where
  pub own : r.number ≡ n
  pub low : r.first ≤ i
  pub high : i < r.first + r.len

-- the pointer to block i there
abbrev pub pointer_in : PointerRun → ℕ → ℕ
pointer_in r i = get_or r.pointers (r.place + (i - r.first)) 0

-- how many pointers from one to another lead to a block
abbrev pub blocks_in : (ℕ → ℕ) → ℕ → ℕ → ℕ
blocks_in pointer from to = length (filter (λ i. not (pointer i == 0)) (range_with_len from (to - from)))

-- file n is there, and its inode is at this address
pub record IsInodeAt (v : LogMemory) (n address : ℕ) : Type 0 where
  pub number : IsFileNumber n
  pub is : address ≡ address_in v.map n
  pub there : 0 < address

-- The pointer to block i of file n, which is there: what its way leads to, in memory and on the device.
pub record IsPointer (d : DeviceState) (v : LogMemory) (n i pointer : ℕ) : Type 0 where
  pub some : 1 ≤ n
  pub there : 0 < address_in v.map n
  pub low : i < FILE_BLOCKS
  pub value : d.keeps_model
      → pointer ≡ data_now d.content (blocks_of v.dirty) n (present d.content (blocks_of v.dirty) (Inode n) (address_in v.map n)) i

-- a run has what memory and device have
abbrev pub IsRunOf : DeviceState → LogMemory → PointerRun → Type 0
IsRunOf d v r = (i : ℕ) → IsInRun r r.number i → IsPointer d v r.number i (pointer_in r i)

-- so does one that is kept, if one is
abbrev pub KeepsRun : DeviceState → LogMemory → Option PointerRun → Type 0
KeepsRun d v kept = IfSome kept (IsRunOf d v)

-- the one that is kept has the pointer to block i of file n
abbrev pub IsKeptFor : Option PointerRun → ℕ → ℕ → Type 0
IsKeptFor None n i = ⊥
IsKeptFor (Some r) n i = IsInRun r n i

-- file n has no block i, as its number tells or the index, or for there is no such file
abbrev pub HasNoWay : LogMemory → ℕ → ℕ → Type 0
HasNoWay v n i = (FILE_BLOCKS ≤ i) ⊎ ((n ≡ 0) ⊎ (address_in v.map n ≡ 0))

-- so many of its pointers from one on to another lead to a block
pub record CountsRun (from end count : ℕ) (r : PointerRun) : Type 0 where
  pub inside : end ≤ r.first + r.len
  pub value : blocks_in (pointer_in r) from end ≡ count

-- where memory and device hold a log map, this many blocks of file n at the indices from..to are stored
abbrev pub AnswersCount : DeviceState → DeviceState → LogMemory → ℕ → ℕ → ℕ → ℕ → Type 0
AnswersCount d d' v n from to count = (k : CheckpointValue) (m0 m : LogMap) → d'.keeps_model → IsLoose d v k m0 m
    → stored_in m n from to ≡ count

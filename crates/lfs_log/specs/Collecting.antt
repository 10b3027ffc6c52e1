-- The keys of the blocks that stand in segments are listed, so that a pass of the cleaner moves them file by file.
use Rattle.std.specs.Prelude.{◌≡◌, ◌<◌, ◌≤◌, ◌⊎◌, ◌+◌, ◌++◌, ℕ, zero, suc, List, length, get_or}
use Rattle.std.specs.List.{Contains}
use Rattle.lfs_model.specs.Checkpoint.{CheckpointValue}
use Rattle.lfs_model.specs.Device.{DeviceState}
use Rattle.lfs_model.specs.Entry.{Entry}
use Rattle.lfs_model.specs.Entry as entry
use Rattle.lfs_model.specs.Memory.{Memory, parent}
use Rattle.lfs_model.specs.Reach.{segment_start}
use Rattle.lfs_model.specs.Stands.{LogMap}
use Rattle.lfs_model.specs.Summary.{BlockNameValue, no_block}
use Rattle.lfs_memory.specs.inodes.Key.{entry_of}
use Rattle.lfs_memory.specs.inodes.declared.key.BlockKey.{BlockKey}
use Rattle.lfs_memory.specs.declared.memory.LogMemory.{LogMemory}
use Rattle.lfs_memory.specs.Lifting.{IsMapLost, MapLifts}
use Rattle.lfs_memory.specs.Memory.{IsLoose, tables_of}
use Rattle.lfs_log.specs.Groups.{ListedKeys}
use Rattle.lfs_log.specs.Relocating.{IsAmong, IsUsageLost, Relocates, Traced, UsageLeavesIn}

-- a key of the list is the block's
abbrev pub IsListed : List BlockKey → Entry → Type 0
IsListed keys x = (key : BlockKey) × Contains keys key × (entry_of key ≡ x)

-- Keys were added behind the others, at most so many.
pub record AddsKeys (old new : ListedKeys) (most : ℕ) : Type 0 where
  pub added : List BlockKey
  pub keys : new.keys ≡ old.keys ++ added
  pub few : length added ≤ most
  pub room : old.room ≤ new.room

-- ---- blocks of the tables

-- one at most leaves its place, to be written elsewhere
abbrev pub LiftsOne : LogMemory → LogMemory → Type 0
LiftsOne v v' = (j : ℕ) × ((v' ≡ v) ⊎ (MapLifts v v' j ⊎ UsageLeavesIn v v' j))

-- and so in so many steps
abbrev pub LiftsTables : ℕ → LogMemory → LogMemory → Type 0
LiftsTables zero v v' = v' ≡ v
LiftsTables (suc n) v v' = (w : LogMemory) × LiftsTables n v w × LiftsOne w v'

-- one isn't counted where it stands
abbrev pub IsTableLost : LogMemory → Type 0
IsTableLost v = (j : ℕ) × (IsMapLost v j ⊎ IsUsageLost v j)

-- ---- the blocks that a summary names

-- it is listed, or is one of the tables that doesn't stand at this address
abbrev pub IsFound : List BlockKey → LogMemory → Entry → ℕ → Type 0
IsFound keys v x address = IsListed keys x ⊎ ((parent x ≡ x) × ((tables_of v).at x ≡ address → ⊥))

-- so are the first of those that these names name, from address `first` on
abbrev pub NamesFound : List BlockKey → LogMemory → List BlockNameValue → ℕ → ℕ → Type 0
NamesFound keys v names first upto = (i : ℕ) → i < upto → IsFound keys v (entry.entry_of (get_or names i no_block)) (first + i)

-- ---- the blocks that stand in segments

-- A call that adds keys, at most so many, and brings no block into memory.
pub record Collects (d d' : DeviceState) (v v' : LogMemory) (l l' : ListedKeys) (most : ℕ) : Type 0 where
  pub relocates : Relocates d d' v v'
  pub dirty : v'.dirty ≡ v.dirty
  pub last : v'.usage.last ≡ v.usage.last
  pub adds : AddsKeys l l' most

-- those that stand at these addresses are listed
abbrev pub AreListed : List BlockKey → ℕ → ℕ → Memory → Type 0
AreListed keys from to M = (y : Entry) → from ≤ M.at y → M.at y < to → IsListed keys y

abbrev pub ListsBetween : DeviceState → DeviceState → LogMemory → LogMemory → ℕ → ℕ → List BlockKey → Type 0
ListsBetween d d' v v' from to keys = (k : CheckpointValue) (m0 m : LogMap) → d'.keeps_model → (is : IsLoose d v k m0 m)
    → Traced d' v' k m0 m is.running.memory (AreListed keys from to)

-- and those in any of these segments
abbrev pub AreListedEach : List ℕ → ℕ → List BlockKey → Memory → Type 0
AreListedEach segments upto keys M = (i : ℕ) → i < upto
    → AreListed keys (segment_start (get_or segments i 0)) (segment_start (get_or segments i 0 + 1)) M

abbrev pub ListsEach : DeviceState → DeviceState → LogMemory → LogMemory → List ℕ → ℕ → List BlockKey → Type 0
ListsEach d d' v v' segments upto keys = (k : CheckpointValue) (m0 m : LogMap) → d'.keeps_model → (is : IsLoose d v k m0 m)
    → Traced d' v' k m0 m is.running.memory (AreListedEach segments upto keys)

abbrev pub AreAllListed : List ℕ → List BlockKey → Memory → Type 0
AreAllListed segments keys M = (y : Entry) → 2 ≤ M.at y → IsAmong segments (M.at y) → IsListed keys y

abbrev pub ListsAll : DeviceState → DeviceState → LogMemory → LogMemory → List ℕ → List BlockKey → Type 0
ListsAll d d' v v' segments keys = (k : CheckpointValue) (m0 m : LogMap) → d'.keeps_model → (is : IsLoose d v k m0 m)
    → Traced d' v' k m0 m is.running.memory (AreAllListed segments keys)

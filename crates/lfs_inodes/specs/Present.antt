-- The same, where blocks in memory stand in for what the device has: a pointer to a block in memory is 1.
use Rattle.std.specs.Prelude.{◌≡◌, ◌<◌, ◌≤◌, ◌⊎◌, ◌+◌, ◌-◌, ◌/◌, ◌%◌, ◌==◌, ℕ, zero, suc, nat_lt, cond, List}
use Rattle.lfs_model.specs.Content.{Content, bytes_of, block}
use Rattle.lfs_model.specs.Entry.{Entry, Data, Leaf, Double, Inode, word}
use Rattle.lfs_model.specs.Stands.{LogMap}
use Rattle.lfs_model.specs.Memory.{Memory}
use Rattle.lfs_model.specs.Laid.{IsLaid}
use Rattle.lfs_model.specs.Running.{Dirty, IsCached}
use Rattle.lfs_model.specs.declared.limits.TheConstants.{BLOCK_POINTERS, DIRECT_BLOCKS, FILE_BLOCKS}
use Rattle.lfs_layout.specs.declared.inode.TheConstants.{DOUBLE_POINTER, FIRST_POINTER, SINGLE_POINTER}
use Rattle.lfs_inodes.specs.Pointed.{IsLost}

-- the block of an entry whose pointer is this
abbrev pub present : Content → Dirty → Entry → ℕ → List ℕ
present content dirty x address = cond (address == 1) (bytes_of (dirty x)) (block content address)

-- the pointer to a leaf, and to a data block, of the file n of this inode
abbrev pub leaf_now : Content → Dirty → ℕ → List ℕ → ℕ → ℕ
leaf_now content dirty n inode zero = word inode SINGLE_POINTER
leaf_now content dirty n inode (suc q) = word (present content dirty (Double n) (word inode DOUBLE_POINTER)) q

abbrev pub data_now : Content → Dirty → ℕ → List ℕ → ℕ → ℕ
data_now content dirty n inode i =
    cond (nat_lt i DIRECT_BLOCKS) (word inode (FIRST_POINTER + i))
    (word (present content dirty (Leaf n ((i - DIRECT_BLOCKS) / BLOCK_POINTERS))
    (leaf_now content dirty n inode ((i - DIRECT_BLOCKS) / BLOCK_POINTERS))) ((i - DIRECT_BLOCKS) % BLOCK_POINTERS))

-- the place in an inode of the pointer with which the way to a leaf, and to a data block, begins
abbrev pub leaf_first : ℕ → ℕ
leaf_first zero = SINGLE_POINTER
leaf_first (suc q) = DOUBLE_POINTER

abbrev pub data_first : ℕ → ℕ
data_first i = cond (nat_lt i DIRECT_BLOCKS) (FIRST_POINTER + i) (leaf_first ((i - DIRECT_BLOCKS) / BLOCK_POINTERS))

-- a block of pointers on the way, which isn't in memory, is lost
pub record IsAway (content : Content) (address : ℕ) : Type 0 where
  pub outside : address ≡ 1 → ⊥
  pub lost : IsLost content address

abbrev pub IsLeafAway : Content → List ℕ → ℕ → Type 0
IsLeafAway content inode q = (1 ≤ q) × IsAway content (word inode DOUBLE_POINTER)

abbrev pub IsDataAway : Content → Dirty → ℕ → List ℕ → ℕ → Type 0
IsDataAway content dirty n inode i = (DIRECT_BLOCKS ≤ i)
    × (IsLeafAway content inode ((i - DIRECT_BLOCKS) / BLOCK_POINTERS)
    ⊎ IsAway content (leaf_now content dirty n inode ((i - DIRECT_BLOCKS) / BLOCK_POINTERS)))

-- Where memory and device are laid out for a log map, this is what memory
-- has for the block: 0 for none, 1 for one in memory, else its address.
abbrev pub PresentIsLaid : Type 0
PresentIsLaid = (content : Content) (m : LogMap) (M : Memory) (open_segment : ℕ) (dirty : Dirty) → IsLaid content m M open_segment
    → IsCached dirty M
    → (n i : ℕ) → 0 < M.at (Inode n) → i < FILE_BLOCKS → data_now content dirty n (M.bytes (Inode n)) i ≡ M.at (Data n i)

-- What the pointers of one inode lead to, as in the tree of pointers that a checkpoint reaches.
use Rattle.std.specs.Prelude.{◌≡◌, ◌<◌, ◌≤◌, ◌⊎◌, ◌+◌, ◌-◌, ◌/◌, ◌%◌, ℕ, zero, suc, nat_lt, cond, List, get_or, None}
use Rattle.lfs_model.specs.Device.{cell_at}
use Rattle.lfs_model.specs.Content.{Content, block}
use Rattle.lfs_model.specs.Entry.{Entry, Data, Leaf, Double, Inode, Map, Usage, word}
use Rattle.lfs_model.specs.declared.limits.TheConstants.{BLOCK_POINTERS, DIRECT_BLOCKS}
use Rattle.lfs_layout.specs.declared.inode.TheConstants.{DOUBLE_POINTER, FIRST_POINTER, SINGLE_POINTER}

-- these are the numbers of a block of pointers
abbrev pub ArePointers : List ℕ → List ℕ → Type 0
ArePointers numbers b = (j : ℕ) → j < BLOCK_POINTERS → get_or numbers j 0 ≡ word b j

-- the address of a leaf
abbrev pub leaf_in : Content → List ℕ → ℕ → ℕ
leaf_in content inode zero = word inode SINGLE_POINTER
leaf_in content inode (suc q) = word (block content (word inode DOUBLE_POINTER)) q

-- the address of a data block
abbrev pub data_in : Content → List ℕ → ℕ → ℕ
data_in content inode i =
    cond (nat_lt i DIRECT_BLOCKS) (word inode (FIRST_POINTER + i))
    (word (block content (leaf_in content inode ((i - DIRECT_BLOCKS) / BLOCK_POINTERS))) ((i - DIRECT_BLOCKS) % BLOCK_POINTERS))

-- the address of a block of the inode's file; no pointer leads to an inode or to a block of a table
abbrev pub pointed : Content → List ℕ → Entry → ℕ
pointed content inode (Data n i) = data_in content inode i
pointed content inode (Leaf n q) = leaf_in content inode q
pointed content inode (Double n) = word inode DOUBLE_POINTER
pointed content inode (Inode n) = 0
pointed content inode (Map j) = 0
pointed content inode (Usage j) = 0

-- a block of pointers that can't be read, or that isn't on the device
pub record IsLost (content : Content) (address : ℕ) : Type 0 where
  pub some : 0 < address
  pub lost : cell_at content address ≡ None

-- a block of pointers on the way to a leaf, or to a data block, is lost
abbrev pub IsLeafLost : Content → List ℕ → ℕ → Type 0
IsLeafLost content inode q = (1 ≤ q) × IsLost content (word inode DOUBLE_POINTER)

abbrev pub IsDataLost : Content → List ℕ → ℕ → Type 0
IsDataLost content inode i = (DIRECT_BLOCKS ≤ i)
    × (IsLeafLost content inode ((i - DIRECT_BLOCKS) / BLOCK_POINTERS)
    ⊎ IsLost content (leaf_in content inode ((i - DIRECT_BLOCKS) / BLOCK_POINTERS)))

abbrev pub IsWayLost : Content → List ℕ → Entry → Type 0
IsWayLost content inode (Data n i) = IsDataLost content inode i
IsWayLost content inode (Leaf n q) = IsLeafLost content inode q
IsWayLost content inode (Double n) = ⊥
IsWayLost content inode (Inode n) = ⊥
IsWayLost content inode (Map j) = ⊥
IsWayLost content inode (Usage j) = ⊥

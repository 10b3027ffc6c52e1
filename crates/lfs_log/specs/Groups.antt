-- The order in which a pass of the cleaner goes over the blocks of files: file by file, and in a file leaf by leaf.
use Rattle.std.specs.Prelude.{◌≡◌, ◌≤◌, ◌⊎◌, ◌+◌, ◌*◌, ◌-◌, ◌/◌, cond, nat_lt, ℕ, List}
use Rattle.lfs_model.specs.declared.limits.TheConstants.{BLOCK_POINTERS, DIRECT_BLOCKS, LAST_LEAF}
use Rattle.lfs_model.specs.Entry.{Entry, Data, Leaf, Double, Inode, Map, Usage}
use Rattle.lfs_memory.specs.inodes.Key.{entry_of}
use Rattle.lfs_memory.specs.inodes.declared.key.BlockKey.{BlockKey}
use Rattle.lfs_memory.specs.declared.memory.LogMemory.{LogMemory}
use Rattle.lfs_memory.specs.Lifting.{IsInMemory}
use Rattle.lfs_log.specs.declared.groups.TheConstants.{GROUPS}

-- the group of a block: those that an inode points to and the double root come first in a file, then each leaf with the blocks below it
abbrev pub group_of : Entry → ℕ
group_of (Data n i) = GROUPS * n + cond (nat_lt i DIRECT_BLOCKS) 0 ((i - DIRECT_BLOCKS) / BLOCK_POINTERS + 1)
group_of (Leaf n q) = GROUPS * n + (q + 1)
group_of (Double n) = GROUPS * n
group_of (Inode n) = GROUPS * n
group_of (Map j) = 0
group_of (Usage j) = 0

abbrev pub group_at : BlockKey → ℕ
group_at key = group_of (entry_of key)

-- the first group behind all that a block leads to
abbrev pub closes_at : Entry → ℕ
closes_at (Data n i) = 0
closes_at (Leaf n q) = GROUPS * n + (q + 2)
closes_at (Double n) = GROUPS * (n + 1)
closes_at (Inode n) = GROUPS * (n + 1)
closes_at (Map j) = 0
closes_at (Usage j) = 0

-- the block is an inode or a block of pointers above a group
abbrev pub IsAbove : ℕ → Entry → Type 0
IsAbove group (Data n i) = ⊥
IsAbove group (Leaf n q) = (q ≤ LAST_LEAF) × (GROUPS * n + (q + 1) ≡ group)
IsAbove group (Double n) = n ≡ group / GROUPS
IsAbove group (Inode n) = n ≡ group / GROUPS
IsAbove group (Map j) = ⊥
IsAbove group (Usage j) = ⊥

-- a leaf of pointers
abbrev pub IsLeaf : Entry → Type 0
IsLeaf (Data n i) = ⊥
IsLeaf (Leaf n q) = Unit {0}
IsLeaf (Double n) = ⊥
IsLeaf (Inode n) = ⊥
IsLeaf (Map j) = ⊥
IsLeaf (Usage j) = ⊥

-- no other blocks are in memory
abbrev pub HasAboveAlone : LogMemory → ℕ → Type 0
HasAboveAlone v group = (x : Entry) → IsInMemory v x → IsAbove group x

-- a leaf of an earlier group
abbrev pub IsClosedLeaf : ℕ → Entry → Type 0
IsClosedLeaf group x = IsLeaf x × (closes_at x ≤ group)

-- no others but leaves of earlier groups
abbrev pub HasAboveAndLeaves : LogMemory → ℕ → Type 0
HasAboveAndLeaves v group = (x : Entry) → IsInMemory v x → IsAbove group x ⊎ IsClosedLeaf group x

-- Keys of blocks in a list, for so many of which there is memory.
pub record ListedKeys : Type 0 where
  pub keys : List BlockKey
  pub room : ℕ

-- The order of the walk, and what has been seen up to a step of it.
-- All of it is an own choice: it orders the stages that the model names.
use Rattle.std.specs.Prelude.{◌≡◌, ◌<◌, ◌≤◌, ◌⊎◌, ◌+◌, ◌*◌, ℕ, zero, suc, List, length, get_or, slice_index}
use Rattle.lfs_model.specs.declared.limits.TheConstants.{BLOCK_POINTERS, FILE_BLOCKS, FILE_NUMBERS, MAP_BLOCKS, SECTOR_LEN, SEGMENT_SECTORS}
use Rattle.lfs_model.specs.declared.limits.TheConstants.{USAGE_BLOCKS}
use Rattle.lfs_model.specs.Checkpoint.{layout_version}
use Rattle.lfs_model.specs.Entry.{Entry, Data, Leaf, Double, Inode, Map, Usage, IsInode, header}
use Rattle.lfs_model.specs.Reach.{View}
use Rattle.lfs_model.specs.Stands.{HasWord, Reached, used_in, live_in, age_in}
use Rattle.lfs_verify.specs.declared.order.TheConstants.{FIRST_DATA, FIRST_INODE, FIRST_LEAF, FIRST_MAP, FIRST_ROOT}

-- each entry's place in the order of the walk: the usage blocks, the blocks of the inode map, the inodes, each file's single leaf
-- and double root, the leaves under double roots, the data blocks
abbrev pub step_of : Entry → ℕ
step_of (Usage j) = j
step_of (Map j) = FIRST_MAP + j
step_of (Inode n) = FIRST_INODE + n
step_of (Leaf n zero) = FIRST_ROOT + 2 * n
step_of (Double n) = FIRST_ROOT + 1 + 2 * n
step_of (Leaf n (suc q)) = FIRST_LEAF + BLOCK_POINTERS * n + q
step_of (Data n i) = FIRST_DATA + FILE_BLOCKS * n + i

-- the entries that there are
abbrev pub InBounds : Entry → Type 0
InBounds (Usage j) = j < USAGE_BLOCKS
InBounds (Map j) = j < MAP_BLOCKS
InBounds (Inode n) = n < FILE_NUMBERS
InBounds (Leaf n zero) = n < FILE_NUMBERS
InBounds (Double n) = n < FILE_NUMBERS
InBounds (Leaf n (suc q)) = (n < FILE_NUMBERS) × (q < BLOCK_POINTERS)
InBounds (Data n i) = (n < FILE_NUMBERS) × (i < FILE_BLOCKS)

-- what a usage block says of one segment
pub record IsUsage (v : View) (s : ℕ) : Type 0 where
  pub fit : used_in v s ≤ SEGMENT_SECTORS
  pub less : (used_in v s ≡ 0) ⊎ ((0 < live_in v s) × (live_in v s < used_in v s))
  pub both : used_in v s ≡ 0 → live_in v s ≡ 0
  pub past : v.checkpoint.segments ≤ s → (used_in v s ≡ 0) × (age_in v s ≡ 0)

pub record IsUsageBlock (v : View) (j : ℕ) : Type 0 where
  pub readable : length (v.block (Usage j)) ≡ SECTOR_LEN
  pub each : (o : ℕ) → o < 64 → IsUsage v (64 * j + o)

-- the data block at a place of a file of this size
pub record IsDataBytes (i size : ℕ) (bytes : List ℕ) : Type 0 where
  pub nonzero : (o : ℕ) × (0 < slice_index bytes o)
  pub within : SECTOR_LEN * i < size
  pub past : (o : ℕ) → size ≤ SECTOR_LEN * i + o → slice_index bytes o ≡ 0

abbrev pub IsData : View → ℕ → ℕ → Type 0
IsData v n i = IsDataBytes i (header (v.block (Inode n))).size (v.block (Data n i))

-- what a stage asks of a block that is reached
abbrev pub IsGood : View → Entry → Type 0
IsGood v (Usage j) = IsUsageBlock v j
IsGood v (Map j) = HasWord v (Map j)
IsGood v (Inode n) = IsInode (layout_version v.checkpoint) n (v.block (Inode n))
IsGood v (Leaf n q) = HasWord v (Leaf n q)
IsGood v (Double n) = HasWord v (Double n)
IsGood v (Data n i) = IsData v n i

-- Before step r: a sector's mark is one more than the step that reached it, and 0 where none did;
-- what was reached lies in a segment, alone at its address, and is good.
pub record Walked (v : View) (marks : List ℕ) (r : ℕ) : Type 0 where
  pub size : length marks ≡ 2 + 64 * v.checkpoint.segments
  pub held : (a p : ℕ) → get_or marks a 0 ≡ suc p → (e : Entry) × (step_of e ≡ p) × (p < r) × InBounds e × Reached v e × (v.address e ≡ a)
  pub marked : (e : Entry) → step_of e < r → InBounds e → Reached v e → get_or marks (v.address e) 0 ≡ suc (step_of e)
  pub low : (e : Entry) → step_of e < r → InBounds e → Reached v e → 2 ≤ v.address e
  pub good : (e : Entry) → step_of e < r → InBounds e → Reached v e → IsGood v e

-- nothing lies past the bounds
abbrev pub IsBounded : View → Type 0
IsBounded v = (e : Entry) → Reached v e → InBounds e

-- a sector that may be marked
pub record IsUnmarked (marks : List ℕ) (at : ℕ) : Type 0 where
  pub low : 2 ≤ at
  pub within : at < length marks
  pub unmarked : get_or marks at 0 ≡ 0

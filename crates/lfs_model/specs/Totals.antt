-- The blocks by which a volume's space is counted: those of one file, and of all files of a log map.
use Rattle.std.specs.Prelude.{◌≡◌, ◌≤◌, ◌<◌, ◌⊎◌, ◌+◌, ◌-◌, ◌/◌, ℕ, zero, suc, length, filter, Some, None}
use Rattle.std.specs.Int.{div_ceil}
use Rattle.std.specs.List.{range_with_len}
use Rattle.lfs_model.specs.declared.Kind.TheVariants as kind
use Rattle.lfs_model.specs.Encodes.{IsLogMap}
use Rattle.lfs_model.specs.Entry.{Header}
use Rattle.lfs_model.specs.Need.{data_blocks, meta_blocks, pointers}
use Rattle.lfs_model.specs.Objects.{AreLong, IsChangedAt, IsDirectory, has_leaf, is_stored, stored_blocks}
use Rattle.lfs_model.specs.Stands.{LogMap}
use Rattle.lfs_model.specs.TreeOf.{tree_in}
use Rattle.lfs_model.specs.declared.limits.TheConstants.{LAST_NUMBER, FILE_BLOCKS, DIRECT_BLOCKS, BLOCK_POINTERS, FILE_LEAVES}

-- how many blocks of file n at the indices from..to are stored
unfoldable pub stored_in : LogMap → ℕ → ℕ → ℕ → ℕ
stored_in m n from to = length (filter (is_stored m n) (range_with_len from (to - from)))

-- how many leaves of pointers of file n, from..to, are stored
unfoldable pub leaves_in : LogMap → ℕ → ℕ → ℕ → ℕ
leaves_in m n from to = length (filter (has_leaf m n) (range_with_len from (to - from)))

-- the first leaf that may have a block at an index or behind it, and the one behind the last that may have a block before it
abbrev pub leaf_from : ℕ → ℕ
leaf_from i = (i - DIRECT_BLOCKS) / BLOCK_POINTERS

abbrev pub leaf_to : ℕ → ℕ
leaf_to i = div_ceil (i - DIRECT_BLOCKS) BLOCK_POINTERS

-- its leaves that have no block at the indices from..to
abbrev pub leaves_beside : LogMap → ℕ → ℕ → ℕ → ℕ
leaves_beside m n from to = leaves_in m n 0 (leaf_from from) + leaves_in m n (leaf_to to) FILE_LEAVES

-- its data blocks
abbrev pub data_of_file : LogMap → ℕ → ℕ
data_of_file m n = length (stored_blocks m n)

-- its inode and its blocks of pointers; none where it isn't there
abbrev pub meta_of_file : LogMap → ℕ → ℕ
meta_of_file m n = elim (m.header n) [ None ↦ 0 | Some h ↦ 1 + pointers (stored_blocks m n) ]

-- what the numbers from 1 to k add up to
unfoldable pub sum_upto : (ℕ → ℕ) → ℕ → ℕ
sum_upto f zero = 0
sum_upto f (suc k) = sum_upto f k + f (suc k)

-- the data blocks of all files, and their inodes and blocks of pointers
abbrev pub data_in : LogMap → ℕ
data_in m = sum_upto (data_of_file m) LAST_NUMBER

abbrev pub meta_in : LogMap → ℕ
meta_in m = sum_upto (meta_of_file m) LAST_NUMBER

-- These are the totals of a log map.
pub record IsCounted (m : LogMap) (blocks others : ℕ) : Type 0 where
  pub stored : blocks ≡ data_in m
  pub above : others ≡ meta_in m

-- File n has so many blocks at the indices from..to, and so many others, but for leaves of pointers without a block there.
pub record HasMeasure (m : LogMap) (n from to blocks others : ℕ) : Type 0 where
  pub stored : blocks ≡ stored_in m n from to
  pub above : others + leaves_beside m n from to ≡ meta_of_file m n

-- Only object n changes, and of its blocks those at from..to: the totals change by its measure.
abbrev pub TotalsOfChange : Type 0
TotalsOfChange = (m m' : LogMap) (n from to : ℕ) → IsChangedAt m n m' → 1 ≤ n → n ≤ LAST_NUMBER → from ≤ to → to ≤ FILE_BLOCKS
    → ((i : ℕ) → (i < from) ⊎ (to ≤ i) → m'.block n i ≡ m.block n i)
    → (data_in m' + stored_in m n from to ≡ data_in m + stored_in m' n from to)
    × (meta_in m' + meta_of_file m n ≡ meta_in m + meta_of_file m' n)

-- These sums are those over the nodes of the tree.
abbrev pub TotalsOfTree : Type 0
TotalsOfTree = (m : LogMap) → IsLogMap m → ((n : ℕ) → AreLong m n)
    → ((n : ℕ) (h : Header) → m.header n ≡ Some h → h.kind ≡ kind.Directory → IsDirectory m n h)
    → (data_blocks (tree_in m) ≡ data_in m) × (meta_blocks (tree_in m) ≡ meta_in m)

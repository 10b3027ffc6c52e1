-- How much room a tree needs: own choice, over blocks of 512 bytes as the volume's layout cuts them.
use Rattle.std.specs.Prelude.{ℕ, ◌+◌, ◌-◌, ◌*◌, ◌/◌, Bool, not, ◌&&◌, List, ◌==◌, if◌then◌else◌, nat_lt, nat_le, length, take, drop, filter}
use Rattle.std.specs.Prelude.{count_by, sum_by, Option, Some, None}
use Rattle.std.specs.List.{list_any, range_with_len}
use Rattle.lfs_model.specs.Tree.{Node, File, Dir, Link, Tree, slot_len}
use Rattle.lfs_model.specs.declared.limits.TheConstants.{SECTOR_LEN, DIRECT_BLOCKS, BLOCK_POINTERS, FIRST_DOUBLE, NEED_OF_META, LEAST_NEED}

-- whether piece i, of 512 bytes, has a nonzero byte
abbrev pub is_data : List ℕ → ℕ → Bool
is_data b i = list_any (λ c. not (c == 0)) (take SECTOR_LEN (drop (SECTOR_LEN * i) b))

-- the indices of the pieces of n bytes
abbrev pub pieces : ℕ → List ℕ
pieces n = range_with_len 0 ((n + (SECTOR_LEN - 1)) / SECTOR_LEN)

-- the indices of a node's pieces that have a nonzero byte; each entry of a directory counts as nonzero bytes for its whole slot
abbrev pub data_pieces : Node → List ℕ
data_pieces (File b) = filter (is_data b) (pieces (length b))
data_pieces (Dir form m) = pieces (slot_len form * length m)
data_pieces (Link text) = filter (is_data text) (pieces (length text))

-- whether an index lies in a..b
abbrev pub lies_in : ℕ → ℕ → ℕ → Bool
lies_in a b i = nat_le a i && nat_lt i b

-- the pointer blocks of a node with data at these indices: one for 112..240, one for each group of 128 from 240 on, and one more
-- where there is such a group (the 1992 LFS paper has inodes with direct and indirect blocks; the numbers are an own choice)
abbrev pub pointers : List ℕ → ℕ
pointers is = (if list_any (lies_in DIRECT_BLOCKS FIRST_DOUBLE) is then 1 else 0)
    + count_by (λ g. list_any (lies_in (FIRST_DOUBLE + BLOCK_POINTERS * g) (FIRST_DOUBLE + BLOCK_POINTERS + BLOCK_POINTERS * g)) is)
    (range_with_len 0 BLOCK_POINTERS)
    + (if list_any (nat_le FIRST_DOUBLE) is then 1 else 0)

-- the data blocks of a node
unfoldable pub data_of : Node → ℕ
data_of x = length (data_pieces x)

-- its inode and its pointer blocks
unfoldable pub meta_of : Node → ℕ
meta_of x = 1 + pointers (data_pieces x)

-- what a node adds to the need
abbrev pub cost : Node → ℕ
cost x = data_of x + NEED_OF_META * meta_of x

-- what stands at a number adds so much
abbrev pub cost_at : Option Node → ℕ
cost_at None = 0
cost_at (Some x) = cost x

-- the data blocks of all nodes, those without a name included
abbrev pub data_blocks : Tree → ℕ
data_blocks t = sum_by (λ e. data_of e.1) t

-- the inodes and pointer blocks of all nodes
abbrev pub meta_blocks : Tree → ℕ
meta_blocks t = sum_by (λ e. meta_of e.1) t

-- the need of a tree, which is at most 47 for each segment
abbrev pub need : Tree → ℕ
need t = data_blocks t + NEED_OF_META * meta_blocks t + LEAST_NEED

-- What a checkpoint reaches, as a function from entries to addresses, 0 for none.
-- From the checkpoint over the inode map to inodes and their blocks: the
-- Sprite LFS paper (1992, section 3.1); the tree's shape is an own choice.
use Rattle.std.specs.Prelude.{ℕ, zero, suc, ◌+◌, ◌-◌, ◌*◌, ◌/◌, ◌%◌, nat_lt, cond, List, [], ◌∷◌, get_or, take, drop, Option, Some, None}
use Rattle.lfs_model.specs.Entry.{Entry, Data, Leaf, Double, Inode, Map, Usage, word, half, entries_in}
use Rattle.lfs_model.specs.Checkpoint.{CheckpointValue}
use Rattle.lfs_model.specs.Content.{Content, bytes_of, block}
use Rattle.lfs_model.specs.declared.limits.TheConstants.{CHECKPOINT_SLOTS, SEGMENT_SECTORS, DIRECT_BLOCKS, BLOCK_POINTERS, BLOCK_SEGMENTS}
use Rattle.lfs_model.specs.Inode.{direct_word, single_word, double_word}

-- the first sector of a segment; the segments stand behind the checkpoints
abbrev pub segment_start : ℕ → ℕ
segment_start s = CHECKPOINT_SLOTS + SEGMENT_SECTORS * s

abbrev pub usage_block : Content → CheckpointValue → ℕ → List ℕ
usage_block content k j = block content (get_or k.usage j 0)

abbrev pub map_block : Content → CheckpointValue → ℕ → List ℕ
map_block content k j = block content (get_or k.map j 0)

abbrev pub inode_address : Content → CheckpointValue → ℕ → ℕ
inode_address content k n = word (map_block content k (n / BLOCK_POINTERS)) (n % BLOCK_POINTERS)

abbrev pub inode_block : Content → CheckpointValue → ℕ → List ℕ
inode_block content k n = block content (inode_address content k n)

abbrev pub double_address : Content → CheckpointValue → ℕ → ℕ
double_address content k n = word (inode_block content k n) double_word

abbrev pub double_block : Content → CheckpointValue → ℕ → List ℕ
double_block content k n = block content (double_address content k n)

abbrev pub leaf_address : Content → CheckpointValue → ℕ → ℕ → ℕ
leaf_address content k n zero = word (inode_block content k n) single_word
leaf_address content k n (suc q) = word (double_block content k n) q

abbrev pub leaf_block : Content → CheckpointValue → ℕ → ℕ → List ℕ
leaf_block content k n q = block content (leaf_address content k n q)

abbrev pub data_address : Content → CheckpointValue → ℕ → ℕ → ℕ
data_address content k n i =
    cond (nat_lt i DIRECT_BLOCKS) (word (inode_block content k n) (direct_word + i))
    (word (leaf_block content k n ((i - DIRECT_BLOCKS) / BLOCK_POINTERS)) ((i - DIRECT_BLOCKS) % BLOCK_POINTERS))

unfoldable pub address : Content → CheckpointValue → Entry → ℕ
address content k (Data n i) = data_address content k n i
address content k (Leaf n q) = leaf_address content k n q
address content k (Double n) = double_address content k n
address content k (Inode n) = inode_address content k n
address content k (Map j) = get_or k.map j 0
address content k (Usage j) = get_or k.usage j 0

-- The same, one step at a time: where an entry's address stands, if `blocks` are the blocks of the entries.
abbrev pub linked : CheckpointValue → (Entry → List ℕ) → Entry → ℕ
linked k blocks (Data n i) =
    cond (nat_lt i DIRECT_BLOCKS) (word (blocks (Inode n)) (direct_word + i))
    (word (blocks (Leaf n ((i - DIRECT_BLOCKS) / BLOCK_POINTERS))) ((i - DIRECT_BLOCKS) % BLOCK_POINTERS))
linked k blocks (Leaf n zero) = word (blocks (Inode n)) single_word
linked k blocks (Leaf n (suc q)) = word (blocks (Double n)) q
linked k blocks (Double n) = word (blocks (Inode n)) double_word
linked k blocks (Inode n) = word (blocks (Map (n / BLOCK_POINTERS))) (n % BLOCK_POINTERS)
linked k blocks (Map j) = get_or k.map j 0
linked k blocks (Usage j) = get_or k.usage j 0

-- the sectors in use of segment s, and those of them that the checkpoint reaches
abbrev pub used : Content → CheckpointValue → ℕ → ℕ
used content k s = half (usage_block content k (s / BLOCK_SEGMENTS)) (4 * (s % BLOCK_SEGMENTS))

abbrev pub live : Content → CheckpointValue → ℕ → ℕ
live content k s = half (usage_block content k (s / BLOCK_SEGMENTS)) (4 * (s % BLOCK_SEGMENTS) + 1)

-- for each sector of a row of chunks: `None` for a summary, else the entry that the summary gives it
abbrev pub Row : Type 0
Row = List (Option Entry)

abbrev pub after : Option Entry → Option Row → Option Row
after e None = None
after e (Some row) = Some (e ∷ row)

-- a summary, and then what its entries and the sectors behind it are read as
abbrev pub opened : Option (List Entry) → (List Entry → Option Row) → Option Row
opened None rest = None
opened (Some entries) rest = after None (rest entries)

-- Reads sectors as whole chunks; `waiting` are the entries of the chunk's blocks that are still to come.
abbrev pub chunks : List Entry → List (Option (List ℕ)) → Option Row
chunks [] [] = Some []
chunks (e ∷ waiting) [] = None
chunks [] (sector ∷ sectors) = opened (entries_in (bytes_of sector)) (λ entries. chunks entries sectors)
chunks (e ∷ waiting) (sector ∷ sectors) = after (Some e) (chunks waiting sectors)

-- the first u sectors of segment s
unfoldable pub row_by : Content → ℕ → ℕ → Option Row
row_by content u s = chunks [] (take u (drop (segment_start s) content))

-- the chunks of segment s in its sectors from .. to
abbrev pub chunks_between : Content → ℕ → ℕ → ℕ → Option Row
chunks_between content s from to = chunks [] (take (to - from) (drop (segment_start s + from) content))

-- the used part of segment s
abbrev pub row : Content → CheckpointValue → ℕ → Option Row
row content k s = row_by content (used content k s) s

-- the entry that a row gives its sector at a place; none for a summary, past the row, or where it is no row
abbrev pub place_in : Option Row → ℕ → Option Entry
place_in None at = None
place_in (Some row) at = get_or row at None

-- All that the stages look at.
pub record View : Type 0 where
  pub checkpoint : CheckpointValue
  pub address : Entry → ℕ
  pub block : Entry → List ℕ
  pub row : ℕ → Option Row

abbrev pub view_by : Content → CheckpointValue → (Entry → ℕ) → View
view_by content k addresses = record { checkpoint = k; address = addresses; block = λ e. block content (addresses e); row = row content k }

abbrev pub view : Content → CheckpointValue → View
view content k = view_by content k (address content k)

-- What memory holds of a volume between two commits and in one: each block is in memory, or on the device, and its pointers lead to
-- the blocks below it. A write-back cache of the log, whose end in memory the Sprite LFS paper (1992, section 3.1) calls the file cache.
use Rattle.std.specs.Prelude.{◌≡◌, ◌<◌, ◌+◌, ◌*◌, ◌-◌, ◌/◌, ◌%◌, ◌==◌, not, nat_lt, ℕ, zero, suc, Bool, true, false, cond, List, [], ◌++◌}
use Rattle.std.specs.Prelude.{take, drop, length, Option, Some, None}
use Rattle.lfs_model.specs.Entry.{Entry, Data, Leaf, Double, Inode, Map, Usage, Header, word}
use Rattle.lfs_model.specs.Checkpoint.{CheckpointValue}
use Rattle.lfs_model.specs.Fields.{le32}
use Rattle.lfs_model.specs.Live.{live_count}
use Rattle.lfs_model.specs.Reach.{Row, View}
use Rattle.lfs_model.specs.Stands.{LogMap}
use Rattle.lfs_model.specs.declared.limits.TheConstants.{DIRECT_BLOCKS, BLOCK_POINTERS}
use Rattle.lfs_model.specs.Inode.{direct_word, single_word, double_word}

pub record Memory : Type 0 where
  pub segments : ℕ
  -- 0 where an entry has no block, 1 where its block is in memory, else its address
  pub at : Entry → ℕ
  pub bytes : Entry → List ℕ
  -- what stands in each segment, from its first sector on; nothing in a clean one
  pub rows : ℕ → Row

-- the entry whose block points to an entry; an inode's address, and those of the tables' blocks, stand in tables in memory
abbrev pub parent : Entry → Entry
parent (Data n i) = cond (nat_lt i DIRECT_BLOCKS) (Inode n) (Leaf n ((i - DIRECT_BLOCKS) / BLOCK_POINTERS))
parent (Leaf n zero) = Inode n
parent (Leaf n (suc q)) = Double n
parent (Double n) = Inode n
parent (Inode n) = Inode n
parent (Map j) = Map j
parent (Usage j) = Usage j

-- the word of that block at which the entry's address stands
abbrev pub pointer : Entry → ℕ
pointer (Data n i) = cond (nat_lt i DIRECT_BLOCKS) (direct_word + i) ((i - DIRECT_BLOCKS) % BLOCK_POINTERS)
pointer (Leaf n zero) = single_word
pointer (Leaf n (suc q)) = q
pointer (Double n) = double_word
pointer (Inode n) = 0
pointer (Map j) = 0
pointer (Usage j) = 0

-- the block with a number at word w
unfoldable pub patched : ℕ → ℕ → List ℕ → List ℕ
patched w v bytes = take (4 * w) bytes ++ le32 v ++ drop (4 * w + 4) bytes

-- the file of an entry; the blocks of the tables have none
abbrev pub file_of : Entry → Option ℕ
file_of (Data n i) = Some n
file_of (Leaf n q) = Some n
file_of (Double n) = Some n
file_of (Inode n) = Some n
file_of (Map j) = None
file_of (Usage j) = None

abbrev pub IsOfFile : Entry → Type 0
IsOfFile x = (n : ℕ) × (file_of x ≡ Some n)

-- a block of pointers, which is stored where one of them isn't 0
abbrev pub IsPointers : Entry → Type 0
IsPointers (Data n i) = ⊥
IsPointers (Leaf n q) = Unit {0}
IsPointers (Double n) = Unit {0}
IsPointers (Inode n) = ⊥
IsPointers (Map j) = ⊥
IsPointers (Usage j) = ⊥

-- a pointer of a block isn't 0
abbrev pub HasPointer : List ℕ → Type 0
HasPointer bytes = (i : ℕ) × (i < BLOCK_POINTERS) × (0 < word bytes i)

-- a file that has no name, and is there only while a handle is open
abbrev pub is_unlinked : Option Header → Bool
is_unlinked None = false
is_unlinked (Some h) = h.links == 0

abbrev pub is_nameless : LogMap → ℕ → Bool
is_nameless m n = is_unlinked (m.header n)

-- the entries that a commit's checkpoint leads to: all but those of files without a name
abbrev pub is_shown : LogMap → Entry → Bool
is_shown m x = elim (file_of x) [ None ↦ true | Some n ↦ not (is_nameless m n) ]

-- the others, whose blocks' segments are held
abbrev pub is_held : LogMap → Entry → Bool
is_held m x = not (is_shown m x)

-- the addresses of such entries alone
abbrev pub those : (Entry → Bool) → (Entry → ℕ) → Entry → ℕ
those is at x = cond (is x) (at x) 0

abbrev pub shown : LogMap → (Entry → ℕ) → Entry → ℕ
shown m at = those (is_shown m) at

-- the address on the device
abbrev pub settled_at : ℕ → ℕ
settled_at zero = 0
settled_at (suc zero) = 0
settled_at (suc (suc a)) = suc (suc a)

abbrev pub no_checkpoint : CheckpointValue
no_checkpoint = record { number = 0; segments = 0; version = 1; unit_power = 0; map = []; usage = [] }

-- what memory knows of the device, of such entries alone
abbrev pub memory_view : (Entry → Bool) → Memory → View
memory_view is M =
    record { checkpoint = no_checkpoint; address = λ x. settled_at (those is M.at x); block = M.bytes; row = λ s. Some (M.rows s) }

-- how many such entries have their block in segment s
abbrev pub count_of : (Entry → Bool) → Memory → ℕ → ℕ
count_of is M s = live_count (memory_view is M) s

-- the live blocks of segment s, which the usage table of a commit counts, and the blocks there that hold it besides
abbrev pub live_of : LogMap → Memory → ℕ → ℕ
live_of m M s = count_of (is_shown m) M s

abbrev pub held_of : LogMap → Memory → ℕ → ℕ
held_of m M s = count_of (is_held m) M s

-- the used part that the usage table of a commit gives segment s
abbrev pub used_of : LogMap → Memory → ℕ → ℕ
used_of m M s = cond (live_of m M s == 0) 0 (length (M.rows s))

-- How many blocks of a file each segment holds, counted block by block in one order.
use Rattle.std.specs.Prelude.{◌≡◌, ◌<◌, ◌≤◌, ◌⊎◌, ◌+◌, ◌*◌, ◌-◌, ◌/◌, ◌%◌, ◌==◌, ◌&&◌, nat_lt, cond, ℕ, suc, Bool, true, false, List}
use Rattle.std.specs.Prelude.{get_or}
use Rattle.lfs_model.specs.declared.limits.TheConstants.{BLOCK_POINTERS, DIRECT_BLOCKS, FILE_LEAVES, MOST_SEGMENTS, SEGMENT_SECTORS}
use Rattle.lfs_model.specs.Checkpoint.{CheckpointValue}
use Rattle.lfs_model.specs.Content.{Content}
use Rattle.lfs_model.specs.Counting.{segment_of}
use Rattle.lfs_model.specs.Cutting.{is_past}
use Rattle.lfs_model.specs.Detaching.{is_of}
use Rattle.lfs_model.specs.Device.{DeviceState}
use Rattle.lfs_model.specs.Entry.{Entry, Data, Leaf, Double, Inode, Map, Usage, word}
use Rattle.lfs_model.specs.Laid.{IsLaid}
use Rattle.lfs_model.specs.Memory.{Memory, count_of}
use Rattle.lfs_model.specs.Running.{Dirty, IsCached}
use Rattle.lfs_model.specs.Stands.{LogMap}
use Rattle.lfs_inodes.specs.Blocks.{blocks_of}
use Rattle.lfs_memory.specs.declared.memory.LogMemory.{LogMemory}
use Rattle.lfs_memory.specs.Memory.{IsLoose}

-- In the order in which the blocks of a file are counted its inode comes first, then its direct blocks, the double root, and each
-- leaf with the blocks below it: the place of the double root, how many places a leaf takes, where it stands, and the end of all
abbrev pub double_place : ℕ
double_place = DIRECT_BLOCKS + 1

abbrev pub leaf_share : ℕ
leaf_share = BLOCK_POINTERS + 1

abbrev pub leaf_place : ℕ → ℕ
leaf_place q = DIRECT_BLOCKS + 2 + leaf_share * q

abbrev pub end_place : ℕ
end_place = leaf_place FILE_LEAVES

-- The place of a block of a file.
abbrev pub place : Entry → ℕ
place (Data n i) = cond (nat_lt i DIRECT_BLOCKS) (1 + i)
    (DIRECT_BLOCKS + 3 + leaf_share * ((i - DIRECT_BLOCKS) / BLOCK_POINTERS) + (i - DIRECT_BLOCKS) % BLOCK_POINTERS)
place (Leaf n q) = leaf_place q
place (Double n) = double_place
place (Inode n) = 0
place (Map j) = 0
place (Usage j) = 0

-- and the block of file n at a place
abbrev pub below_leaf : ℕ → ℕ → ℕ → Entry
below_leaf n q r = cond (r == 0) (Leaf n q) (Data n (DIRECT_BLOCKS + BLOCK_POINTERS * q + (r - 1)))

abbrev pub at_place : ℕ → ℕ → Entry
at_place n p = cond (p == 0) (Inode n)
    (cond (nat_lt p double_place) (Data n (p - 1)) (cond (p == double_place) (Double n)
    (below_leaf n ((p - leaf_place 0) / leaf_share) ((p - leaf_place 0) % leaf_share))))

-- so many of the pointers to blocks from `lowest` on are to blocks before block `first`
pub record IsBefore (first lowest pointers count : ℕ) : Type 0 where
  pub few : count ≤ pointers
  pub below : 0 < count → lowest + count ≤ first
  pub reach : count < pointers → first ≤ lowest + count

-- the blocks of file n from block `first` on that stand below a place
abbrev pub is_before : ℕ → ℕ → ℕ → Entry → Bool
is_before n first p x = is_past n first x && nat_lt (place x) p

-- they are counted
abbrev pub IsCountedTo : Memory → ℕ → ℕ → ℕ → List ℕ → Type 0
IsCountedTo M n first p counts = (s : ℕ) → get_or counts s 0 ≡ count_of (is_before n first p) M s

-- a block at this address is counted, if that is one on the device
pub record CountsOne (old new : List ℕ) (address : ℕ) : Type 0 where
  pub own : 2 ≤ address → get_or new (segment_of address) 0 ≡ suc (get_or old (segment_of address) 0)
  pub others : (s : ℕ) → (2 ≤ address → s ≡ segment_of address → ⊥) → get_or new s 0 ≡ get_or old s 0

-- and only where it is one of those to be counted
pub record CountsWhere (old new : List ℕ) (address : ℕ) (counted : Bool) : Type 0 where
  pub yes_counted : counted ≡ true → CountsOne old new address
  pub not_counted : counted ≡ false → new ≡ old

-- no log has one more there
pub record IsOver (counts : List ℕ) (address : ℕ) : Type 0 where
  pub above : 2 ≤ address
  pub over : (MOST_SEGMENTS ≤ segment_of address) ⊎ (SEGMENT_SECTORS ≤ get_or counts (segment_of address) 0)

-- what memory holds, over this content and with these blocks
pub record IsHeldBy (e : Content) (dirty : Dirty) (M : Memory) : Type 0 where
  pub map : LogMap
  pub opened_at : ℕ
  pub laid : IsLaid e map M opened_at
  pub cached : IsCached dirty M

-- so many words of a block, from word `start` on, are the addresses of the blocks from place p on, all of them from block `first` on
abbrev pub ArePointers : Memory → ℕ → ℕ → ℕ → List ℕ → ℕ → ℕ → Type 0
ArePointers M n first p bytes start count = (i : ℕ) → i < count → (word bytes (start + i) ≡ M.at (at_place n (p + i)))
    × (is_past n first (at_place n (p + i)) ≡ true)

-- they are counted
abbrev pub CountsWords : List ℕ → ℕ → ℕ → List ℕ → List ℕ → Type 0
CountsWords bytes start count old new = (e : Content) (dirty : Dirty) (M : Memory) (n first p : ℕ) → IsHeldBy e dirty M
    → ArePointers M n first p bytes start count → IsCountedTo M n first p old → IsCountedTo M n first (p + count) new

-- they are none of a log's
abbrev pub AreNoWords : List ℕ → ℕ → ℕ → List ℕ → Type 0
AreNoWords bytes start count old = (e : Content) (dirty : Dirty) (M : Memory) (n first p : ℕ) → IsHeldBy e dirty M
    → ArePointers M n first p bytes start count → IsCountedTo M n first p old → ⊥

-- ---- calls that read blocks of pointers of file n, whose addresses are right by what is given

-- leaf q and what is below it
abbrev pub CountsLeaf : DeviceState → DeviceState → LogMemory → ℕ → ℕ → ℕ → ℕ → List ℕ → List ℕ → Type 0
CountsLeaf d d' v n q address first old new = (M : Memory) → d'.keeps_model → IsHeldBy d.content (blocks_of v.dirty) M
    → M.at (Leaf n q) ≡ address → IsCountedTo M n first (leaf_place q) old → IsCountedTo M n first (leaf_place q + leaf_share) new

abbrev pub FailsLeaf : DeviceState → DeviceState → LogMemory → ℕ → ℕ → ℕ → ℕ → List ℕ → Type 0
FailsLeaf d d' v n q address first old = (M : Memory) → d'.keeps_model → IsHeldBy d.content (blocks_of v.dirty) M
    → M.at (Leaf n q) ≡ address → IsCountedTo M n first (leaf_place q) old → d.failures < d'.failures

-- so many leaves below the double root
abbrev pub AreLeaves : Memory → ℕ → List ℕ → ℕ → Type 0
AreLeaves M n root count = (q : ℕ) → q < count → word root q ≡ M.at (Leaf n (suc q))

abbrev pub CountsLeaves : DeviceState → DeviceState → LogMemory → ℕ → List ℕ → ℕ → ℕ → List ℕ → List ℕ → Type 0
CountsLeaves d d' v n root count first old new = (M : Memory) → d'.keeps_model → IsHeldBy d.content (blocks_of v.dirty) M
    → AreLeaves M n root count → IsCountedTo M n first (leaf_place 1) old → IsCountedTo M n first (leaf_place 1 + leaf_share * count) new

abbrev pub FailsLeaves : DeviceState → DeviceState → LogMemory → ℕ → List ℕ → ℕ → ℕ → List ℕ → Type 0
FailsLeaves d d' v n root count first old = (M : Memory) → d'.keeps_model → IsHeldBy d.content (blocks_of v.dirty) M
    → AreLeaves M n root count → IsCountedTo M n first (leaf_place 1) old → d.failures < d'.failures

-- all that is below the double root
abbrev pub CountsDouble : DeviceState → DeviceState → LogMemory → ℕ → ℕ → ℕ → List ℕ → List ℕ → Type 0
CountsDouble d d' v n address first old new = (M : Memory) → d'.keeps_model → IsHeldBy d.content (blocks_of v.dirty) M
    → M.at (Double n) ≡ address → IsCountedTo M n first (leaf_place 1) old → IsCountedTo M n first end_place new

abbrev pub FailsDouble : DeviceState → DeviceState → LogMemory → ℕ → ℕ → ℕ → List ℕ → Type 0
FailsDouble d d' v n address first old = (M : Memory) → d'.keeps_model → IsHeldBy d.content (blocks_of v.dirty) M
    → M.at (Double n) ≡ address → IsCountedTo M n first (leaf_place 1) old → d.failures < d'.failures

-- all that is below an inode
pub record IsInodeOf (M : Memory) (n : ℕ) (bytes : List ℕ) : Type 0 where
  pub there : 0 < M.at (Inode n)
  pub bytes_are : bytes ≡ M.bytes (Inode n)

abbrev pub CountsInode : DeviceState → DeviceState → LogMemory → ℕ → List ℕ → ℕ → List ℕ → List ℕ → Type 0
CountsInode d d' v n bytes first old new = (M : Memory) → d'.keeps_model → IsHeldBy d.content (blocks_of v.dirty) M → IsInodeOf M n bytes
    → IsCountedTo M n first 0 old → IsCountedTo M n first end_place new

abbrev pub FailsInode : DeviceState → DeviceState → LogMemory → ℕ → List ℕ → ℕ → List ℕ → Type 0
FailsInode d d' v n bytes first old = (M : Memory) → d'.keeps_model → IsHeldBy d.content (blocks_of v.dirty) M → IsInodeOf M n bytes
    → IsCountedTo M n first 0 old → d.failures < d'.failures

-- ---- a file from one block on, and a whole file, where memory and device hold a log map
abbrev pub IsNothing : List ℕ → Type 0
IsNothing counts = (s : ℕ) → get_or counts s 0 ≡ 0

abbrev pub CountsPast : DeviceState → DeviceState → LogMemory → ℕ → ℕ → List ℕ → Type 0
CountsPast d d' v n first counts = (k : CheckpointValue) (m0 m : LogMap) → d'.keeps_model → (is : IsLoose d v k m0 m) → (s : ℕ)
    → get_or counts s 0 ≡ count_of (is_past n first) is.running.memory s

abbrev pub CountsFile : DeviceState → DeviceState → LogMemory → ℕ → List ℕ → Type 0
CountsFile d d' v n counts = (k : CheckpointValue) (m0 m : LogMap) → d'.keeps_model → (is : IsLoose d v k m0 m) → (s : ℕ)
    → get_or counts s 0 ≡ count_of (is_of n) is.running.memory s

-- What changes of a log map's blocks and headers do to the bytes of its objects, to its tree and to the tree's need.
-- All of it is an own choice: it joins the changes of the log to the words of the calls.
use Rattle.std.specs.Prelude.{◌≡◌, ◌≢◌, ◌<◌, ◌≤◌, ◌+◌, ◌*◌, ◌/◌, ◌%◌, ◌-◌, max, min, nat_lt, cond, ◌&&◌, ◌↔◌, ℕ, suc, Bool, true, List, []}
use Rattle.std.specs.Prelude.{◌++◌, length, filter, Option, Some, None, slice_index}
use Rattle.std.specs.List.{AllByRecursion, list_any, range_with_len}
use Rattle.std.specs.Ordering.{nat_cmp}
use Rattle.lfs_model.specs.declared.Kind.TheVariants as kind
use Rattle.lfs_model.specs.Bytes.{cut, part, put}
use Rattle.lfs_model.specs.Changing.{IsWithBlock, IsWithHeader}
use Rattle.lfs_model.specs.Content.{Content}
use Rattle.lfs_model.specs.Encodes.{HasData, HasDouble, HasLeaf, IsLogMap}
use Rattle.lfs_model.specs.Entry.{Header}
use Rattle.lfs_model.specs.Inode.{IsForm, IsSize}
use Rattle.lfs_model.specs.Laid.{IsLaid}
use Rattle.lfs_model.specs.Memory.{Memory}
use Rattle.lfs_model.specs.Need.{cost_at, data_blocks, data_of, meta_blocks, meta_of, need, pieces, pointers}
use Rattle.lfs_model.specs.Slot.{slot_in}
use Rattle.lfs_model.specs.Stands.{LogMap, count_up}
use Rattle.lfs_model.specs.Step.{file_bytes, the_node}
use Rattle.lfs_model.specs.Tree.{File, Node, node, slot_len, with_node, without}
use Rattle.lfs_model.specs.TreeOf.{map_of, node_by, node_of, object, slots, tree_in}
use Rattle.lfs_model.specs.declared.limits.TheConstants.{SECTOR_LEN, LAST_NUMBER, FILE_BLOCKS, LARGEST_FILE, DIRECT_BLOCKS, BLOCK_POINTERS}
use Rattle.lfs_model.specs.declared.limits.TheConstants.{FIRST_DOUBLE, LAST_LEAF, MOST_LINKS}

-- ---- bytes

-- byte p of file n, past its size too; where no block is stored, it is 0
abbrev pub byte_in : LogMap → ℕ → ℕ → ℕ
byte_in m n p = slice_index (m.block n (p / SECTOR_LEN)) (p % SECTOR_LEN)

-- An object's bytes are those of its blocks.
abbrev pub ObjectBytes : Type 0
ObjectBytes = (m : LogMap) (n : ℕ) (h : Header)
    → (length (object m n h) ≡ h.size) × ((p : ℕ) → p < h.size → slice_index (object m n h) p ≡ byte_in m n p)

-- Two objects of one size are the same where each byte is.
abbrev pub SameObjects : Type 0
SameObjects = (m m' : LogMap) (n n' : ℕ) (h h' : Header) → h.size ≡ h'.size → ((p : ℕ) → p < h.size → byte_in m n p ≡ byte_in m' n' p)
    → object m n h ≡ object m' n' h'

-- What is read of an object from a place on: at most so many bytes, none past its end, each the block's.
abbrev pub ObjectPart : Type 0
ObjectPart = (m : LogMap) (n : ℕ) (h : Header) (o count : ℕ) → (length (part (object m n h) o count) ≡ min count (h.size - o))
    × ((j : ℕ) → j < length (part (object m n h) o count) → slice_index (part (object m n h) o count) j ≡ byte_in m n (o + j))

-- bytes, by their places, with w laid over from place o on
pub record Overlays (o : ℕ) (w : List ℕ) (old new : ℕ → ℕ) : Type 0 where
  pub before : (p : ℕ) → p < o → new p ≡ old p
  pub inside : (j : ℕ) → j < length w → new (o + j) ≡ slice_index w j
  pub behind : (p : ℕ) → o + length w ≤ p → new p ≡ old p

-- One block with w laid over is the file with w laid over. An old or a new block that is none counts as zeros.
abbrev pub BlockOverlaid : Type 0
BlockOverlaid = (m m' : LogMap) (n i : ℕ) (bytes : List ℕ) → IsWithBlock m n i bytes m' → (o : ℕ) (w : List ℕ) → o + length w ≤ SECTOR_LEN
    → Overlays o w (slice_index (m.block n i)) (slice_index bytes) → Overlays (SECTOR_LEN * i + o) w (byte_in m n) (byte_in m' n)

-- So is a file with w laid over, said of each of its blocks.
abbrev pub OverlaidByBlocks : Type 0
OverlaidByBlocks = (m m' : LogMap) (n o : ℕ) (w : List ℕ)
    → ((i k : ℕ) → k < SECTOR_LEN → SECTOR_LEN * i + k < o → slice_index (m'.block n i) k ≡ slice_index (m.block n i) k)
    → ((i k j : ℕ) → k < SECTOR_LEN → j < length w → SECTOR_LEN * i + k ≡ o + j → slice_index (m'.block n i) k ≡ slice_index w j)
    → ((i k : ℕ) → k < SECTOR_LEN → o + length w ≤ SECTOR_LEN * i + k → slice_index (m'.block n i) k ≡ slice_index (m.block n i) k)
    → Overlays o w (byte_in m n) (byte_in m' n)

-- What is laid over in two pieces, the one behind the other, is laid over.
abbrev pub OverlaysJoin : Type 0
OverlaysJoin = (o : ℕ) (u w : List ℕ) (old mid new : ℕ → ℕ) → Overlays o u old mid → Overlays (o + length u) w mid new
    → Overlays o (u ++ w) old new

-- a file with w written from o on, which makes it as long as that needs
pub record WritesBytes (m m' : LogMap) (n : ℕ) (h h' : Header) (o : ℕ) (w : List ℕ) : Type 0 where
  pub some : 0 < length w
  pub size : h'.size ≡ max h.size (o + length w)
  pub bytes : Overlays o w (byte_in m n) (byte_in m' n)

-- It is what pwrite makes of the file; a gap before o reads as zeros, since no byte past the old size is another.
abbrev pub ObjectWritten : Type 0
ObjectWritten = (m m' : LogMap) (n : ℕ) (h h' : Header) → IsLogMap m → m.header n ≡ Some h → (o : ℕ) (w : List ℕ)
    → WritesBytes m m' n h h' o w → object m' n h' ≡ put (object m n h) o w

-- a file that ends at len: the blocks from there on are gone, and the bytes of the last block behind it are zeros
pub record CutsBytes (m m' : LogMap) (n : ℕ) (h h' : Header) (len : ℕ) : Type 0 where
  pub size : h'.size ≡ len
  pub whole : (i : ℕ) → SECTOR_LEN * i + SECTOR_LEN ≤ len → m'.block n i ≡ m.block n i
  pub last : (k : ℕ) → k < len % SECTOR_LEN → slice_index (m'.block n (len / SECTOR_LEN)) k ≡ slice_index (m.block n (len / SECTOR_LEN)) k
  pub zeros : (k : ℕ) → len % SECTOR_LEN ≤ k → slice_index (m'.block n (len / SECTOR_LEN)) k ≡ 0
  pub gone : (i : ℕ) → len ≤ SECTOR_LEN * i → m'.block n i ≡ []

-- It is what ftruncate makes of the file, shorter or longer.
abbrev pub ObjectCut : Type 0
ObjectCut = (m m' : LogMap) (n : ℕ) (h h' : Header) → IsLogMap m → m.header n ≡ Some h → (len : ℕ) → CutsBytes m m' n h h' len
    → object m' n h' ≡ cut (object m n h) len

-- A file that is made longer keeps its blocks.
abbrev pub Lengthened : Type 0
Lengthened = (m m' : LogMap) (n : ℕ) (h h' : Header) → IsLogMap m → m.header n ≡ Some h → (len : ℕ) → h.size ≤ len → h'.size ≡ len
    → ((i : ℕ) → m'.block n i ≡ m.block n i) → CutsBytes m m' n h h' len

-- And no byte past that end is other than zero.
abbrev pub CutEnds : Type 0
CutEnds = (m m' : LogMap) (n : ℕ) (h h' : Header) (len : ℕ) → CutsBytes m m' n h h' len → (p : ℕ) → len ≤ p → byte_in m' n p ≡ 0

-- ---- the tree

-- only object n is another: its header, its blocks, or both
pub record IsChangedAt (m : LogMap) (n : ℕ) (m' : LogMap) : Type 0 where
  pub headers : (k : ℕ) → (k ≡ n → ⊥) → m'.header k ≡ m.header k
  pub blocks : (k i : ℕ) → (k ≡ n → ⊥) → m'.block k i ≡ m.block k i
  pub version : m'.version ≡ m.version

-- The node at a number is that of its header.
abbrev pub NodeOfHeader : Type 0
NodeOfHeader = (m : LogMap) (n : ℕ) → 1 ≤ n → n ≤ LAST_NUMBER → node (tree_in m) n ≡ node_of m n (m.header n)

-- An object that is there afterwards, whether it was before or not, is put into the tree.
abbrev pub ObjectPut : Type 0
ObjectPut = (m m' : LogMap) (n : ℕ) (h : Header) → IsChangedAt m n m' → 1 ≤ n → n ≤ LAST_NUMBER → m'.header n ≡ Some h
    → tree_in m' ≡ with_node (tree_in m) n (node_by m' h.kind n h)

-- One that isn't there afterwards is taken from the tree.
abbrev pub ObjectTaken : Type 0
ObjectTaken = (m m' : LogMap) (n : ℕ) → IsChangedAt m n m' → m'.header n ≡ None → tree_in m' ≡ without nat_cmp n (tree_in m)

-- Where only its links are others, the tree is the same.
abbrev pub LinksApart : Type 0
LinksApart = (m m' : LogMap) (n : ℕ) (h h' : Header) → IsWithHeader m n (Some h') m' → m.header n ≡ Some h → h'.kind ≡ h.kind
    → h'.form ≡ h.form → h'.size ≡ h.size → tree_in m' ≡ tree_in m

-- A file that is written is what pwrite makes of the tree.
abbrev pub FileWritten : Type 0
FileWritten = (m m' : LogMap) (n : ℕ) (h h' : Header) → IsLogMap m → IsChangedAt m n m' → 1 ≤ n → n ≤ LAST_NUMBER → m.header n ≡ Some h
    → m'.header n ≡ Some h' → h.kind ≡ kind.File → h'.kind ≡ kind.File
    → (o : ℕ) (w : List ℕ) → WritesBytes m m' n h h' o w
    → tree_in m' ≡ with_node (tree_in m) n (File (put (file_bytes (the_node (tree_in m) n)) o w))

-- One that is cut, or made longer, is what ftruncate makes of it.
abbrev pub FileCut : Type 0
FileCut = (m m' : LogMap) (n : ℕ) (h h' : Header) → IsLogMap m → IsChangedAt m n m' → 1 ≤ n → n ≤ LAST_NUMBER → m.header n ≡ Some h
    → m'.header n ≡ Some h' → h.kind ≡ kind.File → h'.kind ≡ kind.File
    → (len : ℕ) → CutsBytes m m' n h h' len → tree_in m' ≡ with_node (tree_in m) n (File (cut (file_bytes (the_node (tree_in m) n)) len))

-- ---- the need

-- whether block i of file n is stored
abbrev pub is_stored : LogMap → ℕ → ℕ → Bool
is_stored m n i = nat_lt 0 (length (m.block n i))

-- the indices below an end at which file n has a block
unfoldable pub stored_below : LogMap → ℕ → ℕ → List ℕ
stored_below m n end = filter (is_stored m n) (range_with_len 0 end)

-- all of them: a log map has none from 16624 on
abbrev pub stored_blocks : LogMap → ℕ → List ℕ
stored_blocks m n = stored_below m n FILE_BLOCKS

-- each stored block is as long as a sector
abbrev pub AreLong : LogMap → ℕ → Type 0
AreLong m n = (i : ℕ) → HasData m n i → length (m.block n i) ≡ SECTOR_LEN

-- What is laid out in memory and on the device has such blocks.
abbrev pub LaidLong : Type 0
LaidLong = (e : Content) (m : LogMap) (M : Memory) (opened_at : ℕ) → IsLaid e m M opened_at → (n : ℕ) → AreLong m n

-- what stands at a number adds so many data blocks, and so many others
abbrev pub data_at : Option Node → ℕ
data_at None = 0
data_at (Some x) = data_of x

abbrev pub meta_at : Option Node → ℕ
meta_at None = 0
meta_at (Some x) = meta_of x

-- a node costs what data at these indices does
pub record HasCosts (x : Node) (is : List ℕ) : Type 0 where
  pub blocks : data_of x ≡ length is
  pub above : meta_of x ≡ 1 + pointers is

-- the object is whole slots, each formed, and no two of them have one name
pub record IsDirectory (m : LogMap) (n : ℕ) (h : Header) : Type 0 where
  pub whole : h.size % slot_len h.form ≡ 0
  pub formed : AllByRecursion (λ b. slot_in h.form b ≢ None) (slots m n h)
  pub apart : length (map_of h.form (slots m n h)) ≡ length (slots m n h)

-- An object costs what its stored blocks do.
abbrev pub ObjectCosts : Type 0
ObjectCosts = (m : LogMap) (n : ℕ) (h : Header) → IsLogMap m → AreLong m n → m.header n ≡ Some h
    → (h.kind ≡ kind.Directory → IsDirectory m n h) → HasCosts (node_by m h.kind n h) (stored_blocks m n)

-- So the node of an object in the tree adds as many data blocks as are stored for it, and an inode and its blocks of pointers.
abbrev pub CostsInTree : Type 0
CostsInTree = (m : LogMap) (n : ℕ) (h : Header) → IsLogMap m → AreLong m n → 1 ≤ n → n ≤ LAST_NUMBER → m.header n ≡ Some h
    → (h.kind ≡ kind.Directory → IsDirectory m n h)
    → (data_at (node (tree_in m) n) ≡ length (stored_blocks m n)) × (meta_at (node (tree_in m) n) ≡ 1 + pointers (stored_blocks m n))

-- A directory has a block in each of its pieces.
abbrev pub DirectoryBlocks : Type 0
DirectoryBlocks = (m : LogMap) (n : ℕ) (h : Header) → IsLogMap m → m.header n ≡ Some h → IsDirectory m n h
    → stored_blocks m n ≡ pieces h.size

abbrev pub one_if : Bool → ℕ
one_if b = cond {A = ℕ} b 1 0

-- With one block changed there is one index more, or one less, or as many as before; and other files have what they had.
abbrev pub StoredChanged : Type 0
StoredChanged = (m m' : LogMap) (n i : ℕ) (bytes : List ℕ) → IsWithBlock m n i bytes m'
    → (i < FILE_BLOCKS → length (stored_blocks m' n) + one_if (is_stored m n i) ≡ length (stored_blocks m n) + one_if (is_stored m' n i))
    × ((q : ℕ) → (q ≡ n → ⊥) → stored_blocks m' q ≡ stored_blocks m q)

-- With one object changed the blocks of the tree change by those of the object.
abbrev pub BlocksOfChange : Type 0
BlocksOfChange = (m m' : LogMap) (n : ℕ) → IsChangedAt m n m'
    → (data_blocks (tree_in m') + data_at (node (tree_in m) n) ≡ data_blocks (tree_in m) + data_at (node (tree_in m') n))
    × (meta_blocks (tree_in m') + meta_at (node (tree_in m) n) ≡ meta_blocks (tree_in m) + meta_at (node (tree_in m') n))

-- And so does its need.
abbrev pub NeedOfObject : Type 0
NeedOfObject = (m m' : LogMap) (n : ℕ) → IsChangedAt m n m'
    → need (tree_in m') + cost_at (node (tree_in m) n) ≡ need (tree_in m) + cost_at (node (tree_in m') n)

-- ---- what a volume's log map keeps

-- each stored block of the file is a sector with a byte that isn't zero
pub record AreStoredWhole (m : LogMap) (n : ℕ) : Type 0 where
  pub long : AreLong m n
  pub nonzero : (i : ℕ) → HasData m n i → (k : ℕ) × (0 < slice_index (m.block n i) k)

-- an object's blocks fit its header
pub record IsObject (m : LogMap) (n : ℕ) (h : Header) : Type 0 where
  pub number : 1 ≤ n
  pub root : n ≡ 1 → h.kind ≡ kind.Directory
  pub form : IsForm m.version h.kind h.form
  pub size : h.size ≤ LARGEST_FILE
  pub whole : AreStoredWhole m n
  pub ends : (p : ℕ) → h.size ≤ p → byte_in m n p ≡ 0

-- Each object of a log map is one, where blocks are long.
abbrev pub ObjectFits : Type 0
ObjectFits = (m : LogMap) (n : ℕ) (h : Header) → IsLogMap m → AreLong m n → m.header n ≡ Some h → h.size ≤ LARGEST_FILE → IsObject m n h

-- With another object that fits, a log map keeps what it has to.
abbrev pub ObjectKept : Type 0
ObjectKept = (m m' : LogMap) (n : ℕ) (h : Header) → IsLogMap m → IsChangedAt m n m' → m'.header n ≡ Some h → IsObject m' n h → IsLogMap m'

-- Without an object that isn't the root it does too.
abbrev pub ObjectLost : Type 0
ObjectLost = (m m' : LogMap) (n : ℕ) → IsLogMap m → IsChangedAt m n m' → m'.header n ≡ None → ((i : ℕ) → m'.block n i ≡ []) → n ≢ 1
    → IsLogMap m'

-- A block that is none, or a sector with a byte that isn't zero, leaves the file's blocks whole.
abbrev pub BlockWhole : Type 0
BlockWhole = (m m' : LogMap) (n i : ℕ) (bytes : List ℕ) → IsWithBlock m n i bytes m' → AreStoredWhole m n
    → (0 < length bytes → (length bytes ≡ SECTOR_LEN) × ((k : ℕ) × (0 < slice_index bytes k))) → AreStoredWhole m' n

-- No byte past the end that a write leaves is other than zero.
abbrev pub WriteEnds : Type 0
WriteEnds = (m m' : LogMap) (n : ℕ) (h h' : Header) → IsLogMap m → m.header n ≡ Some h → (o : ℕ) (w : List ℕ) → WritesBytes m m' n h h' o w
    → (p : ℕ) → h'.size ≤ p → byte_in m' n p ≡ 0

-- what an inode may say of object n
pub record IsHeaderOf (n : ℕ) (h : Header) : Type 0 where
  pub number : (1 ≤ n) × (n ≤ LAST_NUMBER)
  pub form : IsForm 2 h.kind h.form
  pub links : h.links ≤ MOST_LINKS
  pub size : IsSize h.form h.kind h.size
  -- what follows from its size
  pub most : h.size ≤ LARGEST_FILE
  pub slots : h.kind ≡ kind.Directory → h.size % slot_len h.form ≡ 0

-- What is laid out in memory and on the device has such headers.
abbrev pub LaidHeaders : Type 0
LaidHeaders = (e : Content) (m : LogMap) (M : Memory) (opened_at : ℕ) → IsLaid e m M opened_at → (n : ℕ) (h : Header) → m.header n ≡ Some h
    → IsHeaderOf n h

-- ---- blocks of pointers

-- whether the file has a block below a leaf: 0 is the single leaf, q + 1 is leaf q of the double root
unfoldable pub has_leaf : LogMap → ℕ → ℕ → Bool
has_leaf m n q = list_any (is_stored m n) (range_with_len (DIRECT_BLOCKS + BLOCK_POINTERS * q) BLOCK_POINTERS)

-- and below the double root
unfoldable pub has_double : LogMap → ℕ → Bool
has_double m n = list_any (λ q. has_leaf m n (suc q)) (range_with_len 0 BLOCK_POINTERS)

-- The tests say what they are named for.
abbrev pub LeafTests : Type 0
LeafTests = (m : LogMap) (n : ℕ) → ((q : ℕ) → (has_leaf m n q ≡ true) ↔ HasLeaf m n q) × ((has_double m n ≡ true) ↔ HasDouble m n)

-- The blocks of pointers that a file's cost counts are those that a log map stores for it.
abbrev pub PointerBlocks : Type 0
PointerBlocks = (m : LogMap) (n : ℕ)
    → pointers (stored_blocks m n) ≡ one_if (has_leaf m n 0) + count_up (λ q. has_leaf m n (suc q)) BLOCK_POINTERS + one_if (has_double m n)

-- With one block changed they change by the leaf above it, and by the double root above that.
abbrev pub PointersChanged : Type 0
PointersChanged = (m m' : LogMap) (n i : ℕ) (bytes : List ℕ) → IsWithBlock m n i bytes m'
    → (i < DIRECT_BLOCKS → pointers (stored_blocks m' n) ≡ pointers (stored_blocks m n))
    × ((q : ℕ) → q ≤ LAST_LEAF → DIRECT_BLOCKS + BLOCK_POINTERS * q ≤ i → i < FIRST_DOUBLE + BLOCK_POINTERS * q
    → pointers (stored_blocks m' n) + one_if (has_leaf m n q) + one_if
    (nat_lt 0 q && has_double m n) ≡ pointers (stored_blocks m n) + one_if (has_leaf m' n q) + one_if (nat_lt 0 q && has_double m' n))

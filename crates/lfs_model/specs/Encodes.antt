-- The same from the writer's side: an assignment of addresses to the blocks that a log map stores.
-- All of it is an own choice: a writer chooses addresses, where a reader follows pointers.
use Rattle.std.specs.Prelude.{◌≡◌, ◌<◌, ◌≤◌, ◌⊎◌, ◌+◌, ◌*◌, ◌%◌, ℕ, suc, List, length, get_or, Some, slice_index}
use Rattle.lfs_model.specs.declared.Kind.TheVariants.{Directory}
use Rattle.lfs_model.specs.Entry.{Entry, Data, Leaf, Double, Inode, Map, Usage, Header, IsInode, header, word}
use Rattle.lfs_model.specs.Checkpoint.{CheckpointValue, layout_version, unit_sectors, usage_blocks}
use Rattle.lfs_model.specs.Content.{Content, block}
use Rattle.lfs_model.specs.Inode.{IsForm, direct_word, single_word, double_word}
use Rattle.lfs_model.specs.Reach.{view_by, segment_start}
use Rattle.lfs_model.specs.Stands.{LogMap, StandsAt, IsRows, AreNamed, AreCounted, EnoughClean, used_in, live_in, age_in}
use Rattle.lfs_model.specs.declared.limits.TheConstants.{SECTOR_LEN, SEGMENT_SECTORS, FILE_BLOCKS, DIRECT_BLOCKS, BLOCK_POINTERS}

module _ (m : LogMap) where
  abbrev pub HasData : ℕ → ℕ → Type 0
  HasData n i = 0 < length (m.block n i)

  abbrev pub HasLeaf : ℕ → ℕ → Type 0
  HasLeaf n q = (i : ℕ) × (i < BLOCK_POINTERS) × HasData n (DIRECT_BLOCKS + BLOCK_POINTERS * q + i)

  abbrev pub HasDouble : ℕ → Type 0
  HasDouble n = (q : ℕ) × (q < BLOCK_POINTERS) × HasLeaf n (suc q)

  abbrev pub HasInode : ℕ → Type 0
  HasInode n = (h : Header) × (m.header n ≡ Some h)

  abbrev pub HasMap : ℕ → Type 0
  HasMap j = (i : ℕ) × (i < BLOCK_POINTERS) × HasInode (BLOCK_POINTERS * j + i)

  -- the blocks that are stored for the log map, on a volume of so many segments
  abbrev pub Has : ℕ → Entry → Type 0
  Has segments (Data n i) = HasData n i
  Has segments (Leaf n q) = HasLeaf n q
  Has segments (Double n) = HasDouble n
  Has segments (Inode n) = HasInode n
  Has segments (Map j) = HasMap j
  Has segments (Usage j) = j < usage_blocks segments

  -- what a volume's log map keeps
  pub record IsLogMap : Type 0 where
    pub none : (h : Header) → m.header 0 ≡ Some h → ⊥
    pub root : (h : Header) × (m.header 1 ≡ Some h) × (h.kind ≡ Directory)
    -- each object has a form of the version
    pub forms : (n : ℕ) (h : Header) → m.header n ≡ Some h → IsForm m.version h.kind h.form
    pub within : (n i : ℕ) → HasData n i → (h : Header) × (m.header n ≡ Some h) × (SECTOR_LEN * i < h.size)
    pub small : (n i : ℕ) → HasData n i → i < FILE_BLOCKS
    pub nonzero : (n i : ℕ) → HasData n i → (o : ℕ) × (0 < slice_index (m.block n i) o)
    pub past : (n i o : ℕ) (h : Header) → m.header n ≡ Some h → h.size ≤ SECTOR_LEN * i + o → slice_index (m.block n i) o ≡ 0

  module _ (version : ℕ) (A : Entry → ℕ) where
    pub record SpellsInode (n : ℕ) (bytes : List ℕ) : Type 0 where
      pub formed : IsInode version n bytes
      pub header : m.header n ≡ Some (header bytes)
      pub direct : (i : ℕ) → i < DIRECT_BLOCKS → word bytes (direct_word + i) ≡ A (Data n i)
      pub single : word bytes single_word ≡ A (Leaf n 0)
      pub double : word bytes double_word ≡ A (Double n)

    -- the bytes are the block of an entry, each pointer being the address of what it points to
    abbrev pub Spells : List ℕ → Entry → Type 0
    Spells bytes (Data n i) = bytes ≡ m.block n i
    Spells bytes (Leaf n q) = (i : ℕ) → i < BLOCK_POINTERS → word bytes i ≡ A (Data n (DIRECT_BLOCKS + BLOCK_POINTERS * q + i))
    Spells bytes (Double n) = (q : ℕ) → q < BLOCK_POINTERS → word bytes q ≡ A (Leaf n (suc q))
    Spells bytes (Inode n) = SpellsInode n bytes
    Spells bytes (Map j) = (i : ℕ) → i < BLOCK_POINTERS → word bytes i ≡ A (Inode (BLOCK_POINTERS * j + i))
    Spells bytes (Usage j) = Unit {0}

-- each stored block has an address, and what stands there spells it; nothing else has one
pub record Encodes (c : Content) (k : CheckpointValue) (A : Entry → ℕ) (m : LogMap) : Type 0 where
  pub size : segment_start k.segments ≤ length c
  pub version : m.version ≡ layout_version k
  pub map : (j : ℕ) → A (Map j) ≡ get_or k.map j 0
  pub usage : (j : ℕ) → A (Usage j) ≡ get_or k.usage j 0
  pub stored : (e : Entry) → Has m k.segments e → 0 < A e
  pub only : (e : Entry) → 0 < A e → Has m k.segments e
  pub within : (e : Entry) → 0 < A e → (2 ≤ A e) × (A e < segment_start k.segments)
  pub long : (e : Entry) → 0 < A e → length (block c (A e)) ≡ SECTOR_LEN
  pub spells : (e : Entry) → 0 < A e → Spells m (layout_version k) A (block c (A e)) e
  pub rows : IsRows (view_by c k A)
  pub named : AreNamed (view_by c k A)
  pub fit : (s : ℕ) → used_in (view_by c k A) s ≤ SEGMENT_SECTORS
  pub whole : (s : ℕ) → s < k.segments → used_in (view_by c k A) s % unit_sectors k ≡ 0
  pub less : (s : ℕ)
      → (used_in (view_by c k A) s ≡ 0) ⊎ ((0 < live_in (view_by c k A) s) × (live_in (view_by c k A) s < used_in (view_by c k A) s))
  pub both : (s : ℕ) → used_in (view_by c k A) s ≡ 0 → live_in (view_by c k A) s ≡ 0
  pub past : (s : ℕ) → k.segments ≤ s → (used_in (view_by c k A) s ≡ 0) × (age_in (view_by c k A) s ≡ 0)
  pub counted : AreCounted (view_by c k A)
  pub clean : EnoughClean (view_by c k A)

abbrev pub Encoding : Type 0
Encoding = (c : Content) (k : CheckpointValue) (A : Entry → ℕ) (m : LogMap) → IsLogMap m → Encodes c k A m → StandsAt c k m

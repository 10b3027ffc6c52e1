-- What it is for a content to stand for a log map: the stages of a walk, each by itself.
-- The conditions are an own choice; the segment usage table that they speak of is that of the Sprite LFS paper (1992, section 3.6).
use Rattle.std.specs.Prelude.{◌≡◌, ◌<◌, ◌≤◌, ◌⊎◌, ◌↔◌, ◌+◌, ◌*◌, ◌-◌, ◌/◌, ◌%◌, ◌==◌, nat_lt, ℕ, zero, suc, Bool, true, false, cond, List}
use Rattle.std.specs.Prelude.{length, count_by, Option, Some, None, slice_index}
use Rattle.std.specs.List.{range_with_len}
use Rattle.lfs_model.specs.declared.Kind.TheVariants.{Directory}
use Rattle.lfs_model.specs.Entry.{Entry, Data, Leaf, Double, Inode, Map, Usage, Header, IsInode, header, word, half}
use Rattle.lfs_model.specs.Checkpoint.{CheckpointValue, layout_version, unit_sectors, usage_blocks}
use Rattle.lfs_model.specs.Content.{Content, newest}
use Rattle.lfs_model.specs.Reach.{View, view, Row, place_in, segment_start}
use Rattle.lfs_model.specs.declared.limits.TheConstants.{SECTOR_LEN, CHECKPOINT_SLOTS, SEGMENT_SECTORS, BLOCK_POINTERS, BLOCK_SEGMENTS}

-- each file number's header, each file's nonzero blocks, and the version of the layout; a block that isn't stored is empty
pub record LogMap : Type 0 where
  pub header : ℕ → Option Header
  pub block : ℕ → ℕ → List ℕ
  -- of the layout
  pub version : ℕ

-- the stage that reaches an entry
abbrev pub stage_of : Entry → ℕ
stage_of (Usage j) = 1
stage_of (Map j) = 3
stage_of (Inode n) = 4
stage_of (Double n) = 5
stage_of (Leaf n zero) = 5
stage_of (Leaf n (suc q)) = 6
stage_of (Data n i) = 7

-- how many of the first n numbers pass a test
unfoldable pub count_up : (ℕ → Bool) → ℕ → ℕ
count_up is n = count_by is (range_with_len 0 n)

module _ (v : View) where
  abbrev pub used_in : ℕ → ℕ
  used_in s = half (v.block (Usage (s / BLOCK_SEGMENTS))) (4 * (s % BLOCK_SEGMENTS))

  abbrev pub live_in : ℕ → ℕ
  live_in s = half (v.block (Usage (s / BLOCK_SEGMENTS))) (4 * (s % BLOCK_SEGMENTS) + 1)

  abbrev pub age_in : ℕ → ℕ
  age_in s = word (v.block (Usage (s / BLOCK_SEGMENTS))) (2 * (s % BLOCK_SEGMENTS) + 1)

  abbrev pub Reached : Entry → Type 0
  Reached e = 0 < v.address e

  -- each address of the stage is in a segment, and differs from every other of it and of the stages before
  abbrev pub Fresh : ℕ → Type 0
  Fresh stage = (e : Entry) → stage_of e ≡ stage → Reached e →
      (2 ≤ v.address e) × (v.address e < segment_start v.checkpoint.segments)
      × ((f : Entry) → stage_of f ≤ stage → v.address f ≡ v.address e → f ≡ e)

  abbrev pub HasWord : Entry → Type 0
  HasWord e = (i : ℕ) × (i < BLOCK_POINTERS) × (0 < word (v.block e) i)

  -- the entry that the summary of its chunk gives a sector
  abbrev pub label_at : ℕ → Option Entry
  label_at at = place_in (v.row ((at - CHECKPOINT_SLOTS) / SEGMENT_SECTORS)) ((at - CHECKPOINT_SLOTS) % SEGMENT_SECTORS)

  -- the sector at a place of segment s is reached as the entry that its summary gives it
  abbrev pub is_live : ℕ → ℕ → Bool
  is_live s at = elim (place_in (v.row s) at) [ None ↦ false | Some e ↦ v.address e == segment_start s + at ]

  abbrev pub is_clean : ℕ → Bool
  is_clean s = used_in s == 0

  pub record Usages : Type 0 where
    pub addresses : (j : ℕ) → Reached (Usage j) ↔ (j < usage_blocks v.checkpoint.segments)
    pub fresh : Fresh 1
    pub readable : (j : ℕ) → Reached (Usage j) → length (v.block (Usage j)) ≡ SECTOR_LEN
    pub fit : (s : ℕ) → used_in s ≤ SEGMENT_SECTORS
    -- whole units
    pub whole : (s : ℕ) → s < v.checkpoint.segments → used_in s % unit_sectors v.checkpoint ≡ 0
    pub less : (s : ℕ) → (used_in s ≡ 0) ⊎ ((0 < live_in s) × (live_in s < used_in s))
    pub both : (s : ℕ) → used_in s ≡ 0 → live_in s ≡ 0
    pub past : (s : ℕ) → v.checkpoint.segments ≤ s → (used_in s ≡ 0) × (age_in s ≡ 0)

  pub record Maps : Type 0 where
    pub fresh : Fresh 3
    pub nonempty : (j : ℕ) → Reached (Map j) → HasWord (Map j)
    pub none : v.address (Inode 0) ≡ 0
    pub root : Reached (Inode 1)

  pub record Inodes : Type 0 where
    pub fresh : Fresh 4
    pub formed : (n : ℕ) → Reached (Inode n) → IsInode (layout_version v.checkpoint) n (v.block (Inode n))
    pub root : (header (v.block (Inode 1))).kind ≡ Directory

  pub record Roots : Type 0 where
    pub fresh : Fresh 5
    pub single : (n : ℕ) → Reached (Leaf n 0) → HasWord (Leaf n 0)
    pub double : (n : ℕ) → Reached (Double n) → HasWord (Double n)

  pub record Leaves : Type 0 where
    pub fresh : Fresh 6
    pub nonempty : (n q : ℕ) → Reached (Leaf n (suc q)) → HasWord (Leaf n (suc q))

  pub record Blocks : Type 0 where
    pub fresh : Fresh 7
    pub nonzero : (n i : ℕ) → Reached (Data n i) → (o : ℕ) × (0 < slice_index (v.block (Data n i)) o)
    pub within : (n i : ℕ) → Reached (Data n i) → SECTOR_LEN * i < (header (v.block (Inode n))).size
    pub past : (n i : ℕ) → Reached (Data n i) → (o : ℕ) → (header (v.block (Inode n))).size ≤ SECTOR_LEN * i + o
        → slice_index (v.block (Data n i)) o ≡ 0

  -- the stages that speak of whole segments
  abbrev pub IsRows : Type 0
  IsRows = (s : ℕ) → 0 < used_in s → (r : Row) × (v.row s ≡ Some r)

  abbrev pub AreNamed : Type 0
  AreNamed = (e : Entry) → Reached e → label_at (v.address e) ≡ Some e

  -- some entry's block stands at a sector
  abbrev pub IsHeld : ℕ → Type 0
  IsHeld at = (e : Entry) × (v.address e ≡ at)

  -- n of a segment's sectors are reached
  pub record HoldsCount (s n : ℕ) : Type 0 where
    pub is_held : ℕ → Bool
    pub exact : (at : ℕ) → at < SEGMENT_SECTORS → (is_held at ≡ true) ↔ IsHeld (segment_start s + at)
    pub count : n ≡ count_up is_held SEGMENT_SECTORS

  abbrev pub AreCounted : Type 0
  AreCounted = (s : ℕ) → s < v.checkpoint.segments → HoldsCount s (live_in s)

  abbrev pub EnoughClean : Type 0
  EnoughClean = v.checkpoint.segments ≤ 8 * count_up is_clean v.checkpoint.segments

  -- the stages that a walk over the log goes through
  pub record Stages : Type 0 where
    pub usages : Usages
    pub rows : IsRows
    pub maps : Maps
    pub inodes : Inodes
    pub roots : Roots
    pub leaves : Leaves
    pub blocks : Blocks
    pub named : AreNamed
    pub counted : AreCounted

  -- the header of a file that is there
  abbrev pub header_in : ℕ → Option Header
  header_in n = cond (nat_lt 0 (v.address (Inode n))) (Some (header (v.block (Inode n)))) None

  abbrev pub log_in : LogMap
  log_in = record { header = header_in; block = λ n i. v.block (Data n i); version = layout_version v.checkpoint }

-- the content holds the log map, at this checkpoint
pub record HoldsAt (content : Content) (k : CheckpointValue) (m : LogMap) : Type 0 where
  pub size : segment_start k.segments ≤ length content
  pub stages : Stages (view content k)
  pub header : (n : ℕ) → m.header n ≡ header_in (view content k) n
  pub block : (n i : ℕ) → m.block n i ≡ (view content k).block (Data n i)
  pub version : m.version ≡ layout_version k

-- The content stands for the log map, at this checkpoint: it holds it, and enough segments are clean.
pub record StandsAt (content : Content) (k : CheckpointValue) (m : LogMap) : Type 0 where
  pub holds : HoldsAt content k m
  pub clean : EnoughClean (view content k)

pub record StandsLog (content : Content) (m : LogMap) : Type 0 where
  pub checkpoint : CheckpointValue
  pub newest : newest content ≡ Some checkpoint
  pub stands : StandsAt content checkpoint m

-- the sectors that a checkpoint needs
pub data Protected (v : View) : ℕ → Type 0 where
  reached : (e : Entry) → 0 < v.address e → Protected v (v.address e)
  summary : (s at : ℕ) → at < used_in v s → place_in (v.row s) at ≡ None → Protected v (segment_start s + at)

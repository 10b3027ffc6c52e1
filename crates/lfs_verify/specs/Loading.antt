-- Tables of a volume in memory, as its usage blocks and the blocks of its inode map are taken in one by one.
-- All of it is an own choice.
use Rattle.std.specs.Prelude.{◌≡◌, ◌<◌, ◌≤◌, ◌+◌, ◌*◌, ◌/◌, ℕ, false, List, length, get_or, Some, None}
use Rattle.lfs_model.specs.declared.limits.TheConstants.{BLOCK_POINTERS, MAP_BLOCKS, MOST_UNIT_POWER}
use Rattle.lfs_model.specs.Checkpoint.{CheckpointValue, FitsCheckpoint, IsSegmentCount, IsVersion, layout_version}
use Rattle.lfs_model.specs.Content.{Content, newest}
use Rattle.lfs_model.specs.Entry.{word}
use Rattle.lfs_model.specs.Reach.{view, map_block}
use Rattle.lfs_model.specs.Stands.{LogMap, HoldsAt, StandsAt, used_in, live_in, age_in}
use Rattle.lfs_model.specs.Totals.{IsCounted}
use Rattle.lfs_model.specs.Usage.{SegmentUse, no_use}
use Rattle.lfs_inodes.specs.MapValue.{MapValue, address_in, is_hidden_in, block_in}
use Rattle.lfs_segments.specs.Early.{AreUntaken}
use Rattle.lfs_segments.specs.Table.{SegmentNumbers, UsageTable, no_segment, address_of, stale_of}
use Rattle.lfs_verify.specs.declared.tables.Tables.{Tables}

-- what is known of a segment on the device
abbrev pub loaded : SegmentUse → SegmentNumbers
loaded u = record { used = u.used; live = u.live; held = 0; age = u.age; kept = u.used }

-- the entries of usage block j are taken in, up to the one at this place
pub record IsTakenIn (old new : UsageTable) (uses : List SegmentUse) (j upto : ℕ) : Type 0 where
  pub own : (i : ℕ) → i < upto → 64 * j + i < length old.segments
      → get_or new.segments (64 * j + i) no_segment ≡ loaded (get_or uses i no_use)
  pub before : (s : ℕ) → s < 64 * j → get_or new.segments s no_segment ≡ get_or old.segments s no_segment
  pub after : (s : ℕ) → 64 * j + upto ≤ s → get_or new.segments s no_segment ≡ get_or old.segments s no_segment
  pub size : length new.segments ≡ length old.segments
  pub blocks : new.blocks ≡ old.blocks
  pub last : new.last ≡ old.last
  pub unit : new.unit ≡ old.unit

-- what the content says of a segment
abbrev pub numbers_in : Content → CheckpointValue → ℕ → SegmentNumbers
numbers_in c k s =
    record { used = used_in (view c k) s; live = live_in (view c k) s; held = 0; age = age_in (view c k) s; kept = used_in (view c k) s }

-- an entry of a segment where nothing lives has no age
abbrev pub HasNoDeadAge : Content → CheckpointValue → ℕ → Type 0
HasNoDeadAge c k j = (i : ℕ) → i < 64 → live_in (view c k) (64 * j + i) ≡ 0 → age_in (view c k) (64 * j + i) ≡ 0

-- The usage table, of which the blocks below j are taken in; of what they say there is the content alone to know it by.
pub record IsUsageUpTo (j : ℕ) (segments : ℕ) (t : UsageTable) : Type 0 where
  pub size : length t.segments ≡ segments
  pub own : (i : ℕ) → i < j → 2 ≤ address_of t i
  pub none : (i : ℕ) → j ≤ i → address_of t i ≡ 0
  pub past : (s : ℕ) → 64 * j ≤ s → get_or t.segments s no_segment ≡ no_segment
  -- no chunk was begun since, and no sector taken
  pub last : t.last ≡ None
  pub untaken : AreUntaken t

pub record SaysUsage (c : Content) (k : CheckpointValue) (j : ℕ) (t : UsageTable) : Type 0 where
  pub numbers : (s : ℕ) → s < 64 * j → s < length t.segments → get_or t.segments s no_segment ≡ numbers_in c k s
  pub address : (i : ℕ) → i < j → address_of t i ≡ get_or k.usage i 0
  pub stale : (i : ℕ) → i < j → stale_of t i ≡ false → HasNoDeadAge c k i

-- The inode map, of which the blocks below j are taken in.
pub record IsMapUpTo (j : ℕ) (map : MapValue) : Type 0 where
  pub hidden : (n : ℕ) → is_hidden_in map n ≡ false
  pub none : (i : ℕ) → j ≤ i → block_in map i ≡ 0
  pub past : (n : ℕ) → BLOCK_POINTERS * j ≤ n → address_in map n ≡ 0

pub record SaysMap (c : Content) (k : CheckpointValue) (j : ℕ) (map : MapValue) : Type 0 where
  pub addresses : (i l : ℕ) → i < j → l < BLOCK_POINTERS → address_in map (BLOCK_POINTERS * i + l) ≡ word (map_block c k i) l
  pub blocks : (i : ℕ) → i < j → block_in map i ≡ get_or k.map i 0

-- The tables of a volume are taken in, and a device of this size has all of its segments.
pub record IsLoaded (t : Tables) (size : ℕ) : Type 0 where
  pub count : IsSegmentCount t.segments
  pub known : IsVersion t.version
  pub room : 2 + 64 * t.segments ≤ size
  pub usage : IsUsageUpTo ((t.segments + 63) / 64) t.segments t.usage
  pub unit : t.usage.unit ≤ MOST_UNIT_POWER
  pub map : IsMapUpTo MAP_BLOCKS t.map

-- They say what a content does by this checkpoint.
pub record SaysTables (c : Content) (k : CheckpointValue) (t : Tables) : Type 0 where
  pub number : k.number ≡ t.number
  pub segments : k.segments ≡ t.segments
  pub version : layout_version k ≡ t.version
  pub unit : k.unit_power ≡ t.usage.unit
  pub usage : SaysUsage c k ((k.segments + 63) / 64) t.usage
  pub map : SaysMap c k MAP_BLOCKS t.map

-- The content holds a log map, and the tables and totals are those of that map.
pub record HoldsTables (c : Content) (t : Tables) : Type 0 where
  pub log : LogMap
  pub checkpoint : CheckpointValue
  pub newest : newest c ≡ Some checkpoint
  pub fits : FitsCheckpoint checkpoint
  pub holds : HoldsAt c checkpoint log
  pub says : SaysTables c checkpoint t
  pub counted : IsCounted log t.data_blocks t.meta_blocks

-- It stands for that log map.
pub record HasTables (c : Content) (t : Tables) : Type 0 where
  pub held : HoldsTables c t
  pub stands : StandsAt c held.checkpoint held.log

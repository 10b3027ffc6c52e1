-- The beginning and the end of the log's memory: what a mount finds, and what a commit leaves for its checkpoint.
-- The end of a commit, a checkpoint that leads to all that is live: the Sprite LFS paper (1992, section 4.1); clean segments: section 3.2.
use Rattle.std.specs.Prelude.{◌≡◌, ◌<◌, ◌≤◌, ◌⊎◌, ◌+◌, ◌%◌, ℕ, false, [], length, get_or, Option, Some, None}
use Rattle.lfs_model.specs.Entry.{Entry, Map, Usage}
use Rattle.lfs_model.specs.Checkpoint.{CheckpointValue, layout_version, unit_sectors}
use Rattle.lfs_model.specs.Content.{Content, block}
use Rattle.lfs_model.specs.Crash.{IsFreeSector}
use Rattle.lfs_model.specs.Decodes.{IsSized}
use Rattle.lfs_model.specs.Encodes.{IsLogMap}
use Rattle.lfs_model.specs.Reach.{Row, View, address, row, view_by, segment_start}
use Rattle.lfs_model.specs.Stands.{LogMap, StandsAt, EnoughClean, used_in, live_in, age_in}
use Rattle.lfs_model.specs.TreeOf.{dropped}
use Rattle.lfs_model.specs.Memory.{Memory, is_nameless, shown, live_of, held_of, used_of}
use Rattle.lfs_model.specs.Laid.{IsLaid}
use Rattle.lfs_model.specs.declared.limits.TheConstants.{SECTOR_LEN, SEGMENT_SECTORS, MOST_SEGMENTS}

-- what a checkpoint leads to, files without a name left out
abbrev pub shown_view : Content → LogMap → Memory → CheckpointValue → View
shown_view e m M next = view_by e next (shown m M.at)

-- nothing is left in memory, and the next checkpoint leads to all that is shown
pub record IsDone (e : Content) (m : LogMap) (M : Memory) (opened_at : ℕ) (next : CheckpointValue) : Type 0 where
  pub none : (x : Entry) → M.at x ≡ 1 → ⊥
  pub closed : M.segments ≤ opened_at
  pub segments : next.segments ≡ M.segments
  pub version : layout_version next ≡ m.version
  pub map : (j : ℕ) → M.at (Map j) ≡ get_or next.map j 0
  pub usage : (j : ℕ) → M.at (Usage j) ≡ get_or next.usage j 0
  pub long : (j : ℕ) → 0 < M.at (Usage j) → length (M.bytes (Usage j)) ≡ SECTOR_LEN
  pub used : (s : ℕ) → used_in (shown_view e m M next) s ≡ used_of m M s
  -- whole units
  pub whole : (s : ℕ) → s < next.segments → used_of m M s % unit_sectors next ≡ 0
  pub live : (s : ℕ) → live_in (shown_view e m M next) s ≡ live_of m M s
  pub age : (s : ℕ) → M.segments ≤ s → age_in (shown_view e m M next) s ≡ 0
  pub clean : EnoughClean (shown_view e m M next)

-- So the content stands, by that checkpoint, for the log map without its files of no links.
abbrev pub Finishing : Type 0
Finishing = (e : Content) (m : LogMap) (M : Memory) (opened_at : ℕ) (next : CheckpointValue) → IsLogMap (dropped m) → IsLaid e m M opened_at
    → IsDone e m M opened_at next
    → StandsAt e next (dropped m)

-- Once it is acknowledged: segments where nothing lives and that nothing holds are clean.
pub record IsReleasing (m : LogMap) (M M' : Memory) : Type 0 where
  pub segments : M'.segments ≡ M.segments
  pub at : M'.at ≡ M.at
  pub bytes : M'.bytes ≡ M.bytes
  pub gone : (s : ℕ) → live_of m M s ≡ 0 → held_of m M s ≡ 0 → M'.rows s ≡ []
  pub kept : (s : ℕ) → (0 < live_of m M s) ⊎ (0 < held_of m M s) → M'.rows s ≡ M.rows s

abbrev pub Releasing : Type 0
Releasing = (e : Content) (m : LogMap) (M M' : Memory) (opened_at : ℕ) → IsLaid e m M opened_at → M.segments ≤ opened_at
    → IsReleasing m M M'
    → IsLaid e m M' opened_at × ((s : ℕ) → live_of m M' s ≡ live_of m M s) × ((s : ℕ) → held_of m M' s ≡ held_of m M s)

-- And the sectors of a segment in which nothing lives are free for the checkpoint.
abbrev pub ReleasedFree : Type 0
ReleasedFree = (e : Content) (m : LogMap) (M : Memory) (opened_at : ℕ) (next : CheckpointValue) → IsLaid e m M opened_at
    → IsDone e m M opened_at next
    → StandsAt e next (dropped m) → (s o : ℕ) → s < M.segments → o < SEGMENT_SECTORS → live_of m M s ≡ 0
    → IsFreeSector e next (segment_start s + o)

-- what a mount has in memory
abbrev pub row_or_none : Option Row → Row
row_or_none None = []
row_or_none (Some r) = r

abbrev pub mounted_memory : Content → CheckpointValue → Memory
mounted_memory c k =
    record { segments = k.segments; at = address c k; bytes = λ x. block c (address c k x); rows = λ s. row_or_none (row c k s) }

-- A mount begins with what is there: so there is such a memory wherever a content stands for a log map, and it is at the end of a commit.
abbrev pub Mounting : Type 0
Mounting = (c : Content) (k : CheckpointValue) (m : LogMap) → k.segments ≤ MOST_SEGMENTS → IsSized c → StandsAt c k m
    → IsLaid c m (mounted_memory c k) k.segments × IsDone c m (mounted_memory c k) k.segments k × ((n : ℕ) → is_nameless m n ≡ false)

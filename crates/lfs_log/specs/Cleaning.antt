-- What a pass of the cleaner does: all that lives in some segments goes elsewhere, and they are clean.
use Rattle.std.specs.Prelude.{◌≡◌, ◌<◌, ◌≤◌, ◌+◌, ◌*◌, ◌-◌, ◌/◌, ℕ, true, false, List, [], length, get_or, sum_by, Some}
use Rattle.lfs_model.specs.Checkpoint.{CheckpointValue, shape_of}
use Rattle.lfs_model.specs.Crash.{StandsOn}
use Rattle.lfs_model.specs.declared.limits.TheConstants.{CHUNK_BLOCKS, TABLE_BLOCKS}
use Rattle.lfs_model.specs.Device.{DeviceState, Carries, AllLeft}
use Rattle.lfs_model.specs.Encodes.{IsLogMap}
use Rattle.lfs_model.specs.Members.{IsIn}
use Rattle.lfs_model.specs.Stands.{LogMap}
use Rattle.lfs_model.specs.Totals.{meta_in}
use Rattle.lfs_model.specs.TreeOf.{dropped}
use Rattle.lfs_memory.specs.segments.Early.{AreUntaken}
use Rattle.lfs_memory.specs.segments.Emptied.{IsEmptied}
use Rattle.lfs_memory.specs.segments.Table.{UsageTable, used_of, kept_of, clean_in}
use Rattle.lfs_memory.specs.segments.Victims.{load_of}
use Rattle.lfs_memory.specs.declared.memory.LogMemory.{LogMemory}
use Rattle.lfs_log.specs.LogState.{LogState, Holds, LeavesSaved, AreAllSaved}
use Rattle.lfs_log.specs.Thresholds.{IsEighthClean, most_victims}

-- a segment in use, of which no sector was taken since the acknowledged checkpoint, and in which the last chunk doesn't stand
pub record IsCleanable (t : UsageTable) (s : ℕ) : Type 0 where
  pub inside : s < length t.segments
  pub used : 0 < used_of t s
  pub before : kept_of t s ≡ used_of t s
  pub apart : t.last ≡ Some s → ⊥

-- each such segment still is one, and the chunk doesn't stand there
abbrev pub StayCleanable : LogMemory → LogMemory → Type 0
StayCleanable v v' = (s : ℕ) → IsCleanable v.usage s → IsCleanable v'.usage s × (v'.chunk.segment ≡ s → ⊥)

abbrev pub AreCleanable : UsageTable → List ℕ → Type 0
AreCleanable t vs = (i : ℕ) → i < length vs → IsCleanable t (get_or vs i 0)

abbrev pub AreEmptied : UsageTable → List ℕ → Type 0
AreEmptied t vs = (i : ℕ) → i < length vs → IsEmptied t (get_or vs i 0)

-- how many blocks of files a pass over so many segments may bring into memory: with all blocks of the tables they fill fewer segments
abbrev pub most_brought : ℕ → ℕ
most_brought count = CHUNK_BLOCKS * (count - 1) - TABLE_BLOCKS

-- What a pass asks of memory: nothing is unsaved, an eighth of the segments is clean, and the pass takes no more than these.
pub record MayClean (v : LogMemory) (vs : List ℕ) : Type 0 where
  pub nothing : v.dirty.blocks ≡ []
  pub many : length v.usage.segments ≤ 8 * clean_in v.usage.segments
  pub least : 2 ≤ length vs
  pub most : length vs ≤ length v.usage.segments / 8 + 1
  pub each : AreCleanable v.usage vs

-- and of the log
pub record MayPass {D : Type 0} (h : LogState D) (vs : List ℕ) : Type 0 where
  pub nothing : h.waiting ≡ 0
  pub many : IsEighthClean h.segments h.clean
  pub least : 2 ≤ length vs
  pub most : length vs ≤ most_victims h.segments
  pub each : AreCleanable h.usage vs

module _ {D : Type 0} (state : D → DeviceState) where
  -- The blocks of these segments, with the inodes and blocks of pointers of each log map that the log holds and the blocks of the tables,
  -- fill as many segments.
  abbrev pub ArePacked : LogState D → LogState D → List ℕ → Type 0
  ArePacked h h' vs = (k : CheckpointValue) (m0 m : LogMap) → (state h'.device).keeps_model → Holds state h k m0 m → IsLogMap m
      → most_brought (length vs) < sum_by (load_of h.usage) vs + meta_in m

  -- A pass that is done: the log map is the same and all of it is saved, none of these segments has
  -- a block any more, fewer were taken than these, and a stop meanwhile left what was acknowledged, or the present map without its files
  -- of no links.
  pub record Cleans (h h' : LogState D) (vs : List ℕ) : Type 0 where
    pub carries : Carries (state h.device) (state h'.device)
    pub running : h'.halted ≡ false
    pub number : h'.number ≡ h.number + 1
    pub segments : h'.segments ≡ h.segments
    pub cleaned : (s : ℕ) → IsIn vs s → used_of h'.usage s ≡ 0
    pub gains : h.clean < h'.clean
    pub many : h'.segments ≤ 8 * h'.clean
    pub saved : h'.saved ≡ true
    pub empty : AreAllSaved h'
    pub untaken : AreUntaken h'.usage
    pub no_failure : (state h'.device).failures ≡ (state h.device).failures
    pub holds : (k : CheckpointValue) (m0 m : LogMap) → (state h'.device).keeps_model → Holds state h k m0 m → IsLogMap (dropped m)
        → (next : CheckpointValue) × (shape_of next ≡ shape_of k) × Holds state h' next (dropped m) m
    pub left : (k : CheckpointValue) (m0 m : LogMap) → (state h'.device).keeps_model → Holds state h k m0 m → IsLogMap (dropped m)
        → AllLeft (state h'.device) (λ c. StandsOn (shape_of k) c (dropped m))
    pub moment : LeavesSaved state h h'

-- What the layers above see of a log: numbers, and the log maps that it holds.
use Rattle.std.specs.Prelude.{◌≡◌, ◌⊎◌, ◌<◌, ◌≤◌, ◌+◌, ◌-◌, ◌*◌, ◌^◌, ◌||◌, cond, max, ℕ, Bool, true, false, List}
use Rattle.std.specs.Prelude.{length, Option, None, Result, OnErr, IsErrOf}
use Rattle.lfs_model.specs.declared.limits.TheConstants.{FILE_NUMBERS, MOST_UNSAVED}
use Rattle.lfs_model.specs.Checkpoint.{CheckpointValue, MayHave, Shape, shape_of}
use Rattle.lfs_model.specs.Content.{Content}
use Rattle.lfs_model.specs.Crash.{StandsOn, StandsForOn}
use Rattle.lfs_model.specs.Device.{DeviceState, Carries, LeavesOnly, AllLeft}
use Rattle.lfs_model.specs.Encodes.{IsLogMap, HasInode}
use Rattle.lfs_model.specs.Memory.{is_nameless}
use Rattle.lfs_model.specs.Objects.{is_stored, has_leaf, has_double}
use Rattle.lfs_model.specs.Stands.{LogMap, StandsLog}
use Rattle.lfs_model.specs.Totals.{stored_in}
use Rattle.lfs_model.specs.TreeOf.{dropped}
use Rattle.lfs_memory.specs.declared.changes.Changes.{Changes}
use Rattle.lfs_memory.specs.declared.memory.LogMemory.{LogMemory}
use Rattle.lfs_memory.specs.files.declared.fault.LogFault.{LogFault}
use Rattle.lfs_memory.specs.files.declared.fault.LogFault.TheVariants.{Full, Halted}
use Rattle.lfs_memory.specs.files.declared.header.Header.{Header}
use Rattle.lfs_memory.specs.Batch.{room_for, staged, raises, FitsBatch}
use Rattle.lfs_memory.specs.Memory.{IsMemory, IsLog}
use Rattle.lfs_memory.specs.Present.{Looks, HeaderAnswer, BlockAnswer}
use Rattle.lfs_memory.specs.Removing.{without_file}
use Rattle.lfs_memory.specs.inodes.MapValue.{IsMap}
use Rattle.lfs_memory.specs.segments.Early.{AreUntaken, early_in}
use Rattle.lfs_memory.specs.segments.Table.{UsageTable, clean_in}
use Rattle.lfs_verify.specs.declared.totals.BlockTotals.{BlockTotals}
use Rattle.lfs_log.specs.Early.{full_chunk}
use Rattle.lfs_log.specs.Thresholds.{reserve_of}
use Rattle.lfs_log.specs.Saving.{orders_for, segments_for}

pub record LogState (D : Type 0) : Type 0 where
  pub device : D
  -- a write failed
  pub halted : Bool
  -- the acknowledged checkpoint's number
  pub number : ℕ
  -- of the layout, and whether it was raised since that checkpoint
  pub version : ℕ
  pub upgraded : Bool
  -- the acknowledged log map is the present one without its files of no links, as far as the log knows; else how much of it isn't saved
  pub saved : Bool
  pub unsaved : ℕ
  -- the blocks of all files, as they are staged
  pub totals : BlockTotals
  -- how many segments there are, how many are clean, and how many more will be with the next checkpoint, for nothing lives in them
  pub segments : ℕ
  pub clean : ℕ
  pub emptied : ℕ
  -- how many blocks of files wait in memory for a commit, and how many of them are of data
  pub waiting : ℕ
  pub file_data : ℕ
  -- what lives in each segment, for the cleaner alone
  pub usage : UsageTable
  -- the rest, of which no layer above speaks: the memory that calls change
  pub inner : LogMemory

-- nothing waits for a checkpoint: no block in memory, no version that was raised, and no sector that was taken
pub record AreAllSaved {D : Type 0} (h : LogState D) : Type 0 where
  pub blocks : h.waiting ≡ 0
  pub version : h.upgraded ≡ false
  pub sectors : AreUntaken h.usage

-- What holds where all is saved, after a mount, a commit or a pass. No sector was taken since, and an
-- eighth of the segments is clean at least.
pub record IsAtRest {D : Type 0} (h : LogState D) : Type 0 where
  pub nothing : AreAllSaved h
  pub untaken : AreUntaken h.usage
  pub many : h.segments ≤ 8 * h.clean

-- How much is unsaved: nothing where all of the log is saved. Else the blocks that no checkpoint leads to yet, and one at least, as a file
-- that is gone has none: blocks of files in memory, those that were written between commits, and one for a version that was raised, the
-- checkpoint's.
abbrev pub unsaved_by : {D : Type 0} → LogState D → ℕ
unsaved_by h = cond h.saved 0 (max 1 (h.waiting + early_in h.usage.segments + cond h.upgraded 1 0))

-- how many checkpoints are to be written before all is saved
abbrev pub commits_due : {D : Type 0} → LogState D → ℕ
commits_due h = cond h.saved 0 1

module _ {D : Type 0} (state : D → DeviceState) where
  -- The log holds log map m, and the acknowledged checkpoint k, whose number it knows, stands for m0. Where all of it is saved, m0 is m
  -- without its files of no links, and the log is at rest.
  pub record Holds (h : LogState D) (k : CheckpointValue) (m0 m : LogMap) : Type 0 where
    pub log : IsLog (state h.device) h.inner k m0 m
    pub segments : k.segments ≡ h.segments
    pub number : k.number ≡ h.number
    pub version : m.version ≡ h.version
    -- a volume of the checkpoint may have the version
    pub fits : MayHave k h.version
    pub running : h.halted ≡ false
    pub nothing_new : h.saved ≡ true → m0 ≡ dropped m
    pub rest : h.saved ≡ true → IsAtRest h

  -- a mount gives the log map that the device stands for, all of it durable
  abbrev pub Mounts : D → LogState D → Type 0
  Mounts d h = (m : LogMap) → (state h.device).keeps_model → (is : StandsLog (state d).content m) → Holds h is.checkpoint m m

  -- the acknowledged map, or the present one without its files of no links, on a volume of this shape
  abbrev pub IsSaved : Shape → LogMap → LogMap → Content → Type 0
  IsSaved shape m0 m c = StandsForOn shape m0 (dropped m) c

  -- a stop at any moment leaves one of these
  abbrev pub LeavesSaved : LogState D → LogState D → Type 0
  LeavesSaved h h' = (k : CheckpointValue) (m0 m : LogMap) → (state h'.device).keeps_model → Holds h k m0 m → IsLogMap (dropped m)
      → LeavesOnly (state h.device) (state h'.device) (IsSaved (shape_of k) m0 m)

  -- A commit: the present map, without its files of no links, is what is acknowledged.
  pub record Saves (h h' : LogState D) : Type 0 where
    pub carries : Carries (state h.device) (state h'.device)
    pub running : h'.halted ≡ false
    pub number : h'.number ≡ h.number + 1
    pub segments : h'.segments ≡ h.segments
    -- at most eight segments were taken for it, those that were emptied are clean too, and so is an eighth at least
    pub gains : h.clean + h.emptied ≤ h'.clean + 8
    -- no more of them than its blocks want
    pub taken : h.clean + h.emptied ≤ h'.clean + segments_for h.waiting
    pub clean : h.clean ≤ h'.clean + 8
    pub many : h'.segments ≤ 8 * h'.clean
    pub saved : h'.saved ≡ true
    pub empty : AreAllSaved h'
    pub untaken : AreUntaken h'.usage
    pub no_failure : (state h'.device).failures ≡ (state h.device).failures
    pub holds : (k : CheckpointValue) (m0 m : LogMap) → (state h'.device).keeps_model → Holds h k m0 m → IsLogMap (dropped m)
        → (next : CheckpointValue) × (shape_of next ≡ shape_of k) × Holds h' next (dropped m) m
    pub left : (k : CheckpointValue) (m0 m : LogMap) → (state h'.device).keeps_model → Holds h k m0 m → IsLogMap (dropped m)
        → AllLeft (state h'.device) (λ c. StandsOn (shape_of k) c (dropped m))
    pub moment : LeavesSaved h h'

  -- One that a failure of the device ended.
  pub record Halts (h h' : LogState D) : Type 0 where
    pub carries : Carries (state h.device) (state h'.device)
    pub halted : h'.halted ≡ true
    pub unsaved : h'.saved ≡ false
    pub number : h'.number ≡ h.number
    pub cause : (k : CheckpointValue) (m0 m : LogMap) → (state h'.device).keeps_model → Holds h k m0 m
        → (state h.device).failed_orders < (state h'.device).failed_orders
    pub left : (k : CheckpointValue) (m0 m : LogMap) → (state h'.device).keeps_model → Holds h k m0 m → IsLogMap (dropped m)
        → AllLeft (state h'.device) (IsSaved (shape_of k) m0 m)
    pub moment : LeavesSaved h h'

  -- Full chunks of data blocks went to segments that the acknowledged checkpoint doesn't reach. What the log holds stays, what is
  -- acknowledged and what a stop leaves, and as many blocks are unsaved.
  pub record WritesEarly (h h' : LogState D) : Type 0 where
    pub carries : Carries (state h.device) (state h'.device)
    pub running : h'.halted ≡ false
    pub number : h'.number ≡ h.number
    pub upgraded : h'.upgraded ≡ h.upgraded
    pub saved : h'.saved ≡ h.saved
    pub segments : h'.segments ≡ h.segments
    pub fewer : h'.waiting ≤ h.waiting
    -- what left memory are data blocks alone
    pub only_data : h'.waiting + h.file_data ≡ h.waiting + h'.file_data
    pub unsaved : h'.unsaved ≡ h.unsaved
    -- nothing was written, or what the next commit asks for is clean still
    pub reserve : (h' ≡ h) ⊎ (reserve_of h.segments ≤ h'.clean)
    pub idle : h.file_data < full_chunk → h' ≡ h
    pub rest : IsAtRest h → IsAtRest h'
    -- the next commit takes fewer segments and gives fewer orders, by those that were taken and given here
    pub taken : h.clean + segments_for h'.waiting ≤ h'.clean + segments_for h.waiting
    pub emptied : h.emptied ≤ h'.emptied
    pub told : length (state h'.device).told + orders_for h'.waiting
        ≤ length (state h.device).told + orders_for h.waiting
    pub no_failure : (state h'.device).failures ≡ (state h.device).failures
    pub holds : (k : CheckpointValue) (m0 m : LogMap) → (state h'.device).keeps_model → Holds h k m0 m → Holds h' k m0 m
    pub moment : (k : CheckpointValue) (m0 m : LogMap) → (state h'.device).keeps_model → Holds h k m0 m
        → LeavesOnly (state h.device) (state h'.device) (λ c. StandsOn (shape_of k) c m0)

  -- A call that only reads: all but the device is as it was.
  pub record Reads (h h' : LogState D) : Type 0 where
    pub looks : Looks (state h.device) (state h'.device)
    pub halted : h'.halted ≡ h.halted
    pub number : h'.number ≡ h.number
    pub version : h'.version ≡ h.version
    pub upgraded : h'.upgraded ≡ h.upgraded
    pub saved : h'.saved ≡ h.saved
    pub unsaved : h'.unsaved ≡ h.unsaved
    pub totals : h'.totals ≡ h.totals
    pub segments : h'.segments ≡ h.segments
    pub clean : h'.clean ≡ h.clean
    pub emptied : h'.emptied ≡ h.emptied
    pub waiting : h'.waiting ≡ h.waiting
    pub file_data : h'.file_data ≡ h.file_data
    pub usage : h'.usage ≡ h.usage
    pub inner : h'.inner ≡ h.inner

  -- A call that gave up: it wrote at most to sectors that nothing needs. What the log holds stays, and all that is known of it but where
  -- the last chunk stands, and a stop leaves what is acknowledged.
  pub record HoldsStill (h h' : LogState D) : Type 0 where
    pub carries : Carries (state h.device) (state h'.device)
    pub halted : h'.halted ≡ h.halted
    pub number : h'.number ≡ h.number
    pub version : h'.version ≡ h.version
    pub upgraded : h'.upgraded ≡ h.upgraded
    pub saved : h'.saved ≡ h.saved
    pub unsaved : h'.unsaved ≡ h.unsaved
    pub totals : h'.totals ≡ h.totals
    pub segments : h'.segments ≡ h.segments
    pub clean : h'.clean ≡ h.clean
    pub emptied : h'.emptied ≡ h.emptied
    pub waiting : h'.waiting ≡ h.waiting
    pub file_data : h'.file_data ≡ h.file_data
    pub usage : h'.usage.segments ≡ h.usage.segments
    -- the next chunk begins in a clean segment, where anything was written
    pub last : (length (state h'.device).told ≡ length (state h.device).told) ⊎ (h'.usage.last ≡ None)
    pub holds : (k : CheckpointValue) (m0 m : LogMap) → (state h'.device).keeps_model → Holds h k m0 m → Holds h' k m0 m
    pub moment : (k : CheckpointValue) (m0 m : LogMap) → (state h'.device).keeps_model → Holds h k m0 m
        → LeavesOnly (state h.device) (state h'.device) (λ c. StandsOn (shape_of k) c m0)

  -- a call of the device failed, where the log holds a map
  abbrev pub IsReadFault : LogState D → LogState D → Type 0
  IsReadFault h h' = (k : CheckpointValue) (m0 m : LogMap) → (state h'.device).keeps_model → Holds h k m0 m
      → (state h.device).failures < (state h'.device).failures

  -- One that ends so. It fails where the device does, or as the log was halted before.
  pub record ReadsLog {T : Type 0} (h h' : LogState D) (result : Result T LogFault) : Type 0 where
    pub reads : Reads h h'
    pub halted : IsErrOf result Halted → h.halted ≡ true
    pub other : IsErrOf result Full → ⊥
    pub failed : OnErr result (IsReadFault h h')

  -- what is read is the log map's
  abbrev pub ReadsHeader : LogState D → LogState D → ℕ → Option Header → Type 0
  ReadsHeader h h' n found = (k : CheckpointValue) (m0 m : LogMap) → (state h'.device).keeps_model → Holds h k m0 m → HeaderAnswer m n found

  abbrev pub ReadsBlock : LogState D → LogState D → ℕ → ℕ → List ℕ → Bool → Type 0
  ReadsBlock h h' n i out stored = (k : CheckpointValue) (m0 m : LogMap) → (state h'.device).keeps_model → Holds h k m0 m
      → BlockAnswer m n i out stored

  -- whether block i of file n is stored, and whether one is below its leaf q of pointers
  abbrev pub TellsBlock : LogState D → LogState D → ℕ → ℕ → Bool → Type 0
  TellsBlock h h' n i found = (k : CheckpointValue) (m0 m : LogMap) → (state h'.device).keeps_model → Holds h k m0 m
      → is_stored m n i ≡ found

  abbrev pub TellsLeaf : LogState D → LogState D → ℕ → ℕ → Bool → Type 0
  TellsLeaf h h' n q found = (k : CheckpointValue) (m0 m : LogMap) → (state h'.device).keeps_model → Holds h k m0 m → has_leaf m n q ≡ found

  -- and whether one is below its double root
  abbrev pub TellsDouble : LogState D → LogState D → ℕ → Bool → Type 0
  TellsDouble h h' n found = (k : CheckpointValue) (m0 m : LogMap) → (state h'.device).keeps_model → Holds h k m0 m → has_double m n ≡ found

  -- how many of its blocks from..to are stored
  abbrev pub CountsBlocks : LogState D → LogState D → ℕ → ℕ → ℕ → ℕ → Type 0
  CountsBlocks h h' n from to count = (k : CheckpointValue) (m0 m : LogMap) → (state h'.device).keeps_model → Holds h k m0 m
      → stored_in m n from to ≡ count

  -- A call that changes no more than memory, where so many blocks may come, and the version where it raises it.
  pub record Alters (h h' : LogState D) (more : ℕ) (raised : Bool) : Type 0 where
    pub looks : Looks (state h.device) (state h'.device)
    pub number : h'.number ≡ h.number
    pub version : h'.version ≡ cond raised 2 h.version
    pub upgraded : h'.upgraded ≡ (raised || h.upgraded)
    pub halted : h'.halted ≡ h.halted
    pub segments : h'.segments ≡ h.segments
    pub clean : h'.clean ≡ h.clean
    pub few : h'.waiting ≤ h.waiting + more

  -- A batch of changes is staged: the present log map is the one with all of them, and isn't saved.
  pub record IsStaged (h h' : LogState D) (c : Changes) : Type 0 where
    pub alters : Alters h h' (room_for c) (raises c.loss)
    pub unsaved : h'.saved ≡ false
    pub holds : (k : CheckpointValue) (m0 m : LogMap) → (state h'.device).keeps_model → Holds h k m0 m → FitsBatch m c
        → Holds h' k m0 (staged c m)

  -- Or none is made. Blocks may have come into memory, so that the log counts as unsaved.
  pub record IsRefused (h h' : LogState D) (c : Changes) : Type 0 where
    pub alters : Alters h h' (room_for c) false
    pub unsaved : h.halted ≡ false → h'.saved ≡ false
    pub holds : (k : CheckpointValue) (m0 m : LogMap) → (state h'.device).keeps_model → Holds h k m0 m → FitsBatch m c → Holds h' k m0 m

  -- a call of the device failed, where the log holds a map that the batch fits
  abbrev pub IsStageFault : LogState D → LogState D → Changes → Type 0
  IsStageFault h h' c = (k : CheckpointValue) (m0 m : LogMap) → (state h'.device).keeps_model → Holds h k m0 m → FitsBatch m c
      → (state h.device).failures < (state h'.device).failures

  -- A file is gone. What is saved stays so where it had no links.
  pub record IsRemoved (h h' : LogState D) (n : ℕ) : Type 0 where
    pub alters : Alters h h' 0 false
    pub unsaved : h.saved ≡ false → h'.saved ≡ false
    pub nameless : (k : CheckpointValue) (m0 m : LogMap) → (state h'.device).keeps_model → Holds h k m0 m → is_nameless m n ≡ true
        → h'.saved ≡ h.saved
    pub untaken : AreUntaken h.usage → AreUntaken h'.usage
    pub holds : (k : CheckpointValue) (m0 m : LogMap) → (state h'.device).keeps_model → Holds h k m0 m → Holds h' k m0 (without_file n m)

  -- Or nothing is.
  pub record IsKept (h h' : LogState D) : Type 0 where
    pub alters : Alters h h' 0 false
    pub saved : h'.saved ≡ h.saved
    pub untaken : AreUntaken h.usage → AreUntaken h'.usage
    pub holds : (k : CheckpointValue) (m0 m : LogMap) → (state h'.device).keeps_model → Holds h k m0 m → Holds h' k m0 m

  -- n is the least number that no file has
  pub record IsVacant (h : LogState D) (n : ℕ) : Type 0 where
    pub some : 1 ≤ n
    pub few : n < FILE_NUMBERS
    pub free : (k : CheckpointValue) (m0 m : LogMap) → Holds h k m0 m → m.header n ≡ None
    pub least : (k : CheckpointValue) (m0 m : LogMap) → Holds h k m0 m → (l : ℕ) → 1 ≤ l → l < n → HasInode m l

  -- each number has a file
  abbrev pub HasAll : LogState D → Type 0
  HasAll h = (k : CheckpointValue) (m0 m : LogMap) → Holds h k m0 m → (l : ℕ) → 1 ≤ l → l < FILE_NUMBERS → HasInode m l

  -- all log maps that the log holds are one, and so are those that it acknowledged
  pub record HoldsOne (h : LogState D) : Type 0 where
    pub present : (k k' : CheckpointValue) (m0 m m0' m' : LogMap) → Holds h k m0 m → Holds h k' m0' m' → m ≡ m'
    pub acknowledged : (k k' : CheckpointValue) (m0 m m0' m' : LogMap) → Holds h k m0 m → Holds h k' m0' m' → m0 ≡ m0'

-- so few segments are clean that a commit might leave too few, or no number is left for its checkpoint
abbrev pub IsFull : {D : Type 0} → LogState D → Type 0
IsFull h = (8 * h.clean < h.segments + 64) ⊎ (2 ^ 64 - 1 ≤ h.number)

-- What the numbers of a log say of its memory, whose tables are whole: a law of each log.
pub record IsWhole {D : Type 0} (h : LogState D) : Type 0 where
  pub map : IsMap h.inner.map
  pub usage : h.usage ≡ h.inner.usage
  pub segments : h.segments ≡ length h.usage.segments
  pub clean : h.clean ≡ clean_in h.usage.segments
  pub blocks : h.waiting ≡ length h.inner.dirty.blocks
  pub memory : h.halted ≡ false → IsMemory h.inner
  pub few : h.halted ≡ false → h.waiting ≤ MOST_UNSAVED
  pub limit : h.halted ≡ false → h.inner.dirty.capacity.limit ≡ MOST_UNSAVED
  pub room : h.halted ≡ false → h.inner.dirty.capacity.room ≡ MOST_UNSAVED

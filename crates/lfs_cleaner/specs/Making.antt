-- What is left where the cleaner makes room: it commits what is unsaved, and passes until a quarter of the segments is clean.
use Rattle.std.specs.Prelude.{◌≡◌, ◌⊎◌, ◌<◌, ◌≤◌, ◌+◌, ◌-◌, ◌*◌, ◌/◌, ◌^◌, ℕ, zero, suc, true, false, length}
use Rattle.lfs_model.specs.Checkpoint.{CheckpointValue, Shape, shape_of}
use Rattle.lfs_model.specs.declared.limits.TheConstants.{LEAST_NEED, NEED_OF_META, NEED_OF_SEGMENT}
use Rattle.lfs_model.specs.Device.{DeviceState, Carries, AllLeft}
use Rattle.lfs_model.specs.Encodes.{IsLogMap}
use Rattle.lfs_model.specs.Stands.{LogMap}
use Rattle.lfs_model.specs.Totals.{IsCounted}
use Rattle.lfs_model.specs.TreeOf.{dropped}
pub use Rattle.lfs_log.specs.LogState.{IsAtRest}
use Rattle.lfs_log.specs.LogState.{LogState, Holds, IsFull, IsSaved, LeavesSaved, AreAllSaved, Saves, commits_due}
use Rattle.lfs_log.specs.Saving.{commit_orders, pass_orders}
use Rattle.lfs_log.specs.Thresholds.{AreThreeSixteenthsClean, HasReserve, IsQuarterClean, LacksReserve}
use Rattle.lfs_cleaner.specs.Passing.{Passes, TriesPass}

-- the need of the files, by the totals of the log, is within the volume
abbrev pub IsWithin : {D : Type 0} → LogState D → Type 0
IsWithin h =
    h.totals.data_blocks + NEED_OF_META * h.totals.meta_blocks + LEAST_NEED ≤ NEED_OF_SEGMENT * h.segments

-- a quarter of the segments is clean
abbrev pub HasQuarter : {D : Type 0} → LogState D → Type 0
HasQuarter h = IsQuarterClean h.segments h.clean

-- three sixteenths of the segments are
abbrev pub HasThreeSixteenths : {D : Type 0} → LogState D → Type 0
HasThreeSixteenths h = AreThreeSixteenthsClean h.segments h.clean

-- a change cleans nothing before it where these are, where too few segments are clean for a commit, or where none can be made
abbrev pub IsUncalled : {D : Type 0} → LogState D → Type 0
IsUncalled h = HasThreeSixteenths h ⊎ (LacksReserve h.segments h.clean ⊎ ((h.saved ≡ false) × IsFull h))

-- all is saved, and enough segments are clean for a commit
abbrev pub IsSavedAmply : {D : Type 0} → LogState D → Type 0
IsSavedAmply h = (h.saved ≡ true) × HasReserve h.segments h.clean

-- how many orders passes give the device at most, where there are so many segments: they are an eighth of these
abbrev pub passes_orders : ℕ → ℕ
passes_orders segments = segments / 8 * pass_orders segments

-- and with a commit before them
abbrev pub clean_orders : ℕ → ℕ
clean_orders segments = commit_orders + passes_orders segments

-- and one pass with a commit before it
abbrev pub once_orders : ℕ → ℕ
once_orders segments = commit_orders + pass_orders segments

-- how many checkpoints are written at most: one where anything is unsaved, and one for each pass
abbrev pub most_checkpoints : {D : Type 0} → LogState D → ℕ
most_checkpoints h = h.segments / 8 + commits_due h

-- What isn't saved stays so: no checkpoint was written, memory has no more blocks and takes as many, and enough segments are clean for a
-- commit where enough were.
pub record StaysUnsaved {D : Type 0} (h h' : LogState D) : Type 0 where
  pub number : h'.number ≡ h.number
  pub fewer : h'.waiting ≤ h.waiting
  pub clean : HasReserve h.segments h.clean → HasReserve h'.segments h'.clean

module _ {D : Type 0} (state : D → DeviceState) where
  -- The log has log map m, over what was acknowledged before, m0, or over m without its files of no links. The volume has this shape.
  pub record HoldsOver (shape : Shape) (m0 m : LogMap) (h : LogState D) : Type 0 where
    pub checkpoint : CheckpointValue
    pub acknowledged : LogMap
    pub either : (acknowledged ≡ m0) ⊎ (acknowledged ≡ dropped m)
    pub same : shape_of checkpoint ≡ shape
    pub holds : Holds state h checkpoint acknowledged m

  -- At most so many checkpoints were written, and the log map is the same. A stop meanwhile left what was acknowledged, or the log map
  -- without its files of no links.
  pub record KeepsMap (h h' : LogState D) (most : ℕ) : Type 0 where
    pub carries : Carries (state h.device) (state h'.device)
    pub running : h'.halted ≡ false
    pub later : h.number ≤ h'.number
    pub number : h'.number ≤ h.number + most
    pub segments : h'.segments ≡ h.segments
    pub totals : h'.totals ≡ h.totals
    pub saved : h.saved ≡ true → h'.saved ≡ true
    pub rest : IsAtRest h → IsAtRest h'
    pub holds : (k : CheckpointValue) (m0 m : LogMap) → (state h'.device).keeps_model
        → Holds state h k m0 m → IsLogMap (dropped m)
        → HoldsOver (shape_of k) m0 m h'
    pub moment : LeavesSaved state h h'

  -- the log map, without its files of no links, is acknowledged then
  abbrev pub Acknowledges : LogState D → LogState D → Type 0
  Acknowledges h h' = (k : CheckpointValue) (m0 m : LogMap) → (state h'.device).keeps_model
      → Holds state h k m0 m → IsLogMap (dropped m)
      → (next : CheckpointValue) × (shape_of next ≡ shape_of k) × Holds state h' next (dropped m) m

  -- It is, and nothing of it is unsaved.
  pub record SavesAll (h h' : LogState D) : Type 0 where
    pub saved : h'.saved ≡ true
    pub rest : IsAtRest h'
    pub holds : Acknowledges h h'

  -- Room is made, or nothing is done. What isn't saved after it wasn't before.
  pub record MakesClean (h h' : LogState D) : Type 0 where
    pub keeps : KeepsMap h h' (most_checkpoints h)
    pub unsaved : h'.saved ≡ false → (h.saved ≡ false) × StaysUnsaved h h'
    pub all : h'.saved ≡ true → (h.saved ≡ true) ⊎ Acknowledges h h'
    pub rest : h'.saved ≡ true → (h.saved ≡ true → IsAtRest h) → IsAtRest h'

  -- A pass that began where all was saved, and fewer than a quarter of the segments was clean.
  pub record PassesInNeed (h h' : LogState D) : Type 0 where
    pub nothing : AreAllSaved h
    pub few : 4 * h.clean < h.segments
    pub passes : Passes state h h'

  -- so many of them, one after the other
  abbrev pub PassesOn : ℕ → LogState D → LogState D → Type 0
  PassesOn zero h h' = h' ≡ h
  PassesOn (suc count) h h' = (between : LogState D) × PassesOn count h between × PassesInNeed between h'

  -- Passes that are done, if any.
  pub record Repeats (h h' : LogState D) (most : ℕ) : Type 0 where
    pub passes : (count : ℕ) × (count ≤ most) × PassesOn count h h'
    pub keeps : KeepsMap h h' most
    pub no_failure : (state h'.device).failures ≡ (state h.device).failures
    pub saved : (h' ≡ h) ⊎ SavesAll h h'

  -- So many passes are done, of which each gained a segment.
  pub record PassesDone (h h' : LogState D) (count : ℕ) : Type 0 where
    pub repeats : Repeats h h' count
    pub gains : h.clean + count ≤ h'.clean
    pub told : length (state h'.device).told
        ≤ length (state h.device).told + count * pass_orders h.segments

  -- a commit where anything is unsaved, and nothing where all is saved
  abbrev pub CommitsUnsaved : LogState D → LogState D → Type 0
  CommitsUnsaved h h' = ((h.saved ≡ false) × Saves state h h') ⊎ ((h.saved ≡ true) × AreAllSaved h × (h' ≡ h))

  -- What isn't saved is committed, and passes follow.
  pub record CleansOn (h h' : LogState D) : Type 0 where
    pub between : LogState D
    pub commits : CommitsUnsaved h between
    pub passes : (count : ℕ) × (count ≤ h.segments / 8) × PassesOn count between h'
    pub saves : SavesAll h h' ⊎ (h' ≡ h)

  -- A quarter of the segments is clean. Where it was nothing is done.
  pub record CleansQuarter (h h' : LogState D) : Type 0 where
    pub makes : MakesClean h h'
    pub works : CleansOn h h' ⊎ (h' ≡ h)
    pub no_failure : (state h'.device).failures ≡ (state h.device).failures
    pub quarter : HasQuarter h'

  -- one pass where fewer than a quarter of the segments is clean, and nothing where a quarter is
  abbrev pub PassesWhereDue : LogState D → LogState D → Type 0
  PassesWhereDue h h' = PassesInNeed h h' ⊎ (HasQuarter h × (h' ≡ h))

  -- What is unsaved is committed, and a pass follows where one is due still.
  pub record CleansBehind (h h' : LogState D) : Type 0 where
    pub between : LogState D
    pub commits : CommitsUnsaved h between
    pub passes : PassesWhereDue between h'

  -- so where fewer than a quarter of the segments is clean, and nothing where a quarter is
  abbrev pub CleansOnce : LogState D → LogState D → Type 0
  CleansOnce h h' = CleansBehind h h' ⊎ (HasQuarter h × (h' ≡ h))

  -- it keeps the log map meanwhile
  pub record MakesOnce (h h' : LogState D) : Type 0 where
    pub makes : MakesClean h h'
    pub once : CleansOnce h h'

  -- A failure of the device ended a commit or a pass, after at most so many checkpoints.
  pub record HaltsLater (h h' : LogState D) (most : ℕ) : Type 0 where
    pub carries : Carries (state h.device) (state h'.device)
    pub halted : h'.halted ≡ true
    pub later : h.number ≤ h'.number
    pub number : h'.number ≤ h.number + most
    pub cause : (k : CheckpointValue) (m0 m : LogMap) → (state h'.device).keeps_model
        → Holds state h k m0 m → IsLogMap (dropped m)
        → (state h.device).failed_orders < (state h'.device).failed_orders
    pub left : (k : CheckpointValue) (m0 m : LogMap) → (state h'.device).keeps_model
        → Holds state h k m0 m → IsLogMap (dropped m)
        → AllLeft (state h'.device) (IsSaved state (shape_of k) m0 m)
    pub moment : LeavesSaved state h h'

  -- a call of the device failed, where the log holds a map
  abbrev pub IsCleanFault : LogState D → LogState D → Type 0
  IsCleanFault h h' = (k : CheckpointValue) (m0 m : LogMap) → (state h'.device).keeps_model
      → Holds state h k m0 m → IsLogMap (dropped m)
      → (state h.device).failures < (state h'.device).failures

  -- Where room can be made: the need of log map m is within the volume, enough segments are clean for a commit where anything is unsaved,
  -- and numbers are left for the checkpoints.
  pub record MayMakeClean (h : LogState D) (k : CheckpointValue) (m0 m : LogMap) : Type 0 where
    pub holds : Holds state h k m0 m
    pub map : IsLogMap m
    pub shown : IsLogMap (dropped m)
    pub counted : IsCounted m h.totals.data_blocks h.totals.meta_blocks
    pub need : IsWithin h
    pub enough : h.saved ≡ false → HasReserve h.segments h.clean
    pub number : h.number + most_checkpoints h ≤ 2 ^ 64 - 1

  -- the log held no map that room can be made beside
  abbrev pub MayNotMakeClean : LogState D → LogState D → Type 0
  MayNotMakeClean h h' = (k : CheckpointValue) (m0 m : LogMap) → (state h'.device).keeps_model
      → MayMakeClean h k m0 m → ⊥

  -- Passes aren't made: the log has its map still, and none that room can be made beside.
  pub record LacksPasses (h h' : LogState D) (most : ℕ) : Type 0 where
    pub keeps : KeepsMap h h' most
    pub never : MayNotMakeClean h h'

  -- a call of the device failed that reads: the log has its map still
  pub record FailsPasses (h h' : LogState D) (most : ℕ) : Type 0 where
    pub keeps : KeepsMap h h' most
    pub fault : IsCleanFault h h'

  -- Room isn't made: the log has its map still, and none that room can be made beside.
  pub record LacksClean (h h' : LogState D) : Type 0 where
    pub makes : MakesClean h h'
    pub never : MayNotMakeClean h h'

  -- A call of the device failed that reads: the log has its map still.
  pub record FailsClean (h h' : LogState D) : Type 0 where
    pub makes : MakesClean h h'
    pub fault : IsCleanFault h h'

  -- What was unsaved is saved, and room can be made still.
  pub record IsReadied (h h' : LogState D) : Type 0 where
    pub saved : h'.saved ≡ true
    pub commits : CommitsUnsaved h h'
    pub keeps : KeepsMap h h' (commits_due h)
    pub no_failure : (state h'.device).failures ≡ (state h.device).failures
    pub nothing : AreAllSaved h'
    pub room : (k : CheckpointValue) (m0 m : LogMap) → (state h'.device).keeps_model
        → MayMakeClean h k m0 m → (next : CheckpointValue) × (m1 : LogMap) × MayMakeClean h' next m1 m

  -- ---- before a change
  -- What is unsaved is committed, and one pass that wants a segment is tried, where enough are clean for a commit still.
  pub record TriesBehind (h h' : LogState D) : Type 0 where
    pub between : LogState D
    pub commits : CommitsUnsaved h between
    pub tries : (HasReserve between.segments between.clean × TriesPass state between h')
        ⊎ (LacksReserve between.segments between.clean × (h' ≡ between))

  -- So a change cleans before it: it makes one pass at most.
  abbrev pub CleansBefore : LogState D → LogState D → Type 0
  CleansBefore h h' = TriesBehind h h' ⊎ (IsUncalled h × (h' ≡ h))

  -- The commit alone, which left too few segments clean for a further one.
  pub record SavesOnly (h h' : LogState D) : Type 0 where
    pub readied : IsReadied h h'
    pub lacks : LacksReserve h'.segments h'.clean
    pub clean : h.clean ≤ h'.clean + 8
    pub told : length (state h'.device).told ≤ length (state h.device).told + commit_orders

  -- how a change finds the log then
  abbrev pub LeavesReady : LogState D → LogState D → Type 0
  LeavesReady h h' = (h' ≡ h) ⊎ (SavesOnly h h' ⊎ IsSavedAmply h')

-- What contracts see of a mounted volume, the state that it is in, and what its calls do.
-- The calls are those of POSIX.1-2017; which refusals are excused and what a stop leaves is an own choice.
use Rattle.std.specs.Prelude.{◌≡◌, ◌⊎◌, ◌≤◌, ◌+◌, ◌/◌, ◌^◌, ℕ, Bool, true, false, IsTrue, [], ◌∷◌, length}
use Rattle.lfs_model.specs.Call.{Call, Open, Create, Close, Pread, Pwrite, Truncate, Mkdir, LinkTo, Symlink, Readlink, Unlink, Rmdir}
use Rattle.lfs_model.specs.Call.{Rename, StatOf, LstatOf, Readdir, Fsync, Sync, Clean, Space, Version, Upgrade, Widen, ListTree, Answer}
use Rattle.lfs_model.specs.Call.{Refuse, cleans, commits, may_write, takes_no_memory}
use Rattle.lfs_model.specs.Checkpoint.{CheckpointValue}
use Rattle.lfs_model.specs.declared.limits.TheConstants.{MOST_UNSAVED}
use Rattle.lfs_model.specs.Device.{DeviceState, Carries, AllLeft, IsUntouched}
use Rattle.lfs_model.specs.Encodes.{IsLogMap}
use Rattle.lfs_model.specs.Refusal.{Refusal, NoMemory, Halted, Stuck}
use Rattle.lfs_model.specs.Run.{Point, Answers, acknowledges}
use Rattle.lfs_model.specs.Stands.{LogMap}
use Rattle.lfs_model.specs.Tree.{Handles, State, drop_nameless}
use Rattle.lfs_model.specs.TreeOf.{IsTree, LeavesOne, LeavesStates, Stands}
use Rattle.lfs_model.specs.UnitLaws.{LeavesShape}
use Rattle.lfs_model.specs.Volume.{IsLogOf}
use Rattle.lfs_store.specs.log.LogState.{Holds, LogState, Reads}
use Rattle.lfs_store.specs.log.Saving.{commit_orders}
use Rattle.lfs_store.specs.cleaner.Making.{HasThreeSixteenths, clean_orders, once_orders}
use Rattle.lfs_store.specs.Accepting.{HasClean, HasCleanForTwo}
use Rattle.lfs_model.specs.Totals.{IsCounted}
use Rattle.lfs_fs.specs.Asking.{most_asked}

-- a volume between two calls: what is seen of its log, and the table of open files
pub record Mounted (D : Type 0) : Type 0 where
  pub log : LogState D
  pub table : Handles

-- the number of its segments
abbrev pub segments_of : {D : Type 0} → Mounted D → ℕ
segments_of v = v.log.segments

-- so many checkpoints are written at most in one call
abbrev pub CommitsFew : {D : Type 0} → Mounted D → Mounted D → Type 0
CommitsFew old new = new.log.number ≤ old.log.number + segments_of old / 8 + 1

-- how many writes and syncs a call gives the device at most, where there are so many segments: none where it may not write, as many as a
-- commit where it saves, and as many as where room is made where it changes the tree or cleans
abbrev pub most_orders : Call → ℕ → ℕ
most_orders (Open p) segments = 0
most_orders (Create p) segments = clean_orders segments
most_orders (Close h) segments = 0
most_orders (Pread h off n) segments = 0
most_orders (Pwrite h off w) segments = clean_orders segments
most_orders (Truncate h n) segments = clean_orders segments
most_orders (Mkdir p) segments = clean_orders segments
most_orders (LinkTo p q) segments = clean_orders segments
most_orders (Symlink text p) segments = clean_orders segments
most_orders (Readlink p) segments = 0
most_orders (Unlink p) segments = clean_orders segments
most_orders (Rmdir p) segments = clean_orders segments
most_orders (Rename p q) segments = clean_orders segments
most_orders (StatOf p) segments = 0
most_orders (LstatOf p) segments = 0
most_orders (Readdir p) segments = 0
most_orders (Fsync h) segments = commit_orders
most_orders Sync segments = commit_orders
most_orders Clean segments = clean_orders segments
most_orders Space segments = 0
most_orders Version segments = 0
most_orders Upgrade segments = clean_orders segments
most_orders (Widen p) segments = clean_orders segments
most_orders ListTree segments = 0

-- the calls that may change which files are open
abbrev pub changes_handles : Call → Bool
changes_handles (Open p) = true
changes_handles (Create p) = true
changes_handles (Close h) = true
changes_handles (Pread h off n) = false
changes_handles (Pwrite h off w) = false
changes_handles (Truncate h n) = false
changes_handles (Mkdir p) = false
changes_handles (LinkTo p q) = false
changes_handles (Symlink text p) = false
changes_handles (Readlink p) = false
changes_handles (Unlink p) = false
changes_handles (Rmdir p) = false
changes_handles (Rename p q) = false
changes_handles (StatOf p) = false
changes_handles (LstatOf p) = false
changes_handles (Readdir p) = false
changes_handles (Fsync h) = false
changes_handles Sync = false
changes_handles Clean = false
changes_handles Space = false
changes_handles Version = false
changes_handles Upgrade = false
changes_handles (Widen p) = false
changes_handles ListTree = false

module _ {D : Type 0} (state : D → DeviceState) where
  -- the device is given so many orders more at most
  abbrev pub TellsAtMost : LogState D → LogState D → ℕ → Type 0
  TellsAtMost old new most = length (state new.device).told ≤ length (state old.device).told + most

  -- it is given none
  abbrev pub TellsNothing : LogState D → LogState D → Type 0
  TellsNothing old new = (state new.device).told ≡ (state old.device).told

  -- The volume is in state s: its log has the log map of s, over one that is a tree's, which the acknowledged checkpoint stands for.
  pub record IsIn (v : Mounted D) (k : CheckpointValue) (m0 m : LogMap) (s : State) : Type 0 where
    pub holds : Holds state v.log k m0 m
    pub map : IsLogMap m
    pub log : IsLogOf (segments_of v) m s
    pub handles : s.handles ≡ v.table
    pub counted : IsCounted m v.log.totals.data_blocks v.log.totals.meta_blocks
    pub acknowledged : IsTree (segments_of v) m0
    -- what isn't saved can be saved: the change began below the last number, and room was made for it
    pub ready : v.log.saved ≡ false → HasClean v.log × (v.log.number ≤ 2 ^ 62 + segments_of v / 8)

  -- there are such log maps
  pub record Runs (v : Mounted D) (s : State) : Type 0 where
    pub checkpoint : CheckpointValue
    pub saved : LogMap
    pub present : LogMap
    pub is : IsIn v checkpoint saved present s

  -- each content that a stop may leave stands for some state
  abbrev pub LeavesSome : DeviceState → Type 0
  LeavesSome d = AllLeft d (λ c. (s : State) × Stands c s)

  -- what is seen of the volume between two calls
  pub record IsAt (v : Mounted D) (p : Point) : Type 0 where
    pub halted : p.halted ≡ v.log.halted
    pub number : p.number ≡ v.log.number
    pub failures : p.failures ≡ (state v.log.device).failures
    pub failed_orders : p.failed_orders ≡ (state v.log.device).failed_orders
    pub running : v.log.halted ≡ false → Runs v p.state
    pub leaves : LeavesSome (state v.log.device)

  -- a stop now leaves the state that the volume is in, without its files of no name
  abbrev pub LeavesAll : Mounted D → Type 0
  LeavesAll v = (p : Point) → v.log.halted ≡ false → IsAt v p → LeavesOne (state v.log.device) (drop_nameless p.state)

  -- A volume whose log was only read.
  pub record IsStill (old new : Mounted D) : Type 0 where
    pub reads : Reads state old.log new.log
    pub table : new.table ≡ old.table

  -- What holds of a call over any device, beside what follows once it answered Halted.
  pub record Behaves (old new : Mounted D) (call : Call) (answer : Answer) : Type 0 where
    -- a refusal leaves the open files as they were, and so does each call but open, create and close
    pub refused : (r : Refusal) → answer ≡ Refuse r → new.table ≡ old.table
    pub handles : changes_handles call ≡ false → new.table ≡ old.table
    -- the first Halted is the answer of a call that may write
    pub first_halted : answer ≡ Refuse Halted → (old.log.halted ≡ true) ⊎ IsTrue (may_write call)
    -- a call that may not write leaves the content, what a stop leaves, and the checkpoint's number
    pub quiet : may_write call ≡ false → IsUntouched (state old.log.device) (state new.log.device)
    pub number : may_write call ≡ false → new.log.number ≡ old.log.number
    -- one that may write commits at most once for each eighth of the segments, and once more
    pub few : CommitsFew old new
    -- close, fsync, sync, space and version are never refused for memory
    pub memory : takes_no_memory call ≡ true → answer ≡ Refuse NoMemory → ⊥
    -- no call is stuck
    pub stuck : answer ≡ Refuse Stuck → ⊥
    -- so many writes and syncs are given the device at most, and none by a call that may not write
    pub told : TellsAtMost old.log new.log (most_orders call (segments_of old))
    -- no more than in a commit and a pass of the cleaner, where enough segments are clean for two: one pass comes at most then
    pub one_pass : cleans call ≡ false → HasCleanForTwo old.log → TellsAtMost old.log new.log (once_orders (segments_of old))
    -- and no more than in a commit, where three sixteenths are clean too: no pass comes then
    pub one_commit : cleans call ≡ false → HasCleanForTwo old.log → HasThreeSixteenths old.log
        → TellsAtMost old.log new.log commit_orders
    -- none by one that saves, where all is saved
    pub all_saved : commits call ≡ true → old.log.saved ≡ true → TellsNothing old.log new.log
    -- nor by any that neither saves nor cleans, where memory has room for what it asks for at most beside what isn't saved, and enough
    -- segments are clean, three sixteenths too: it is saved later
    pub idle : commits call ≡ false → cleans call ≡ false → HasClean old.log → HasThreeSixteenths old.log
        → old.log.waiting + most_asked call ≤ MOST_UNSAVED → TellsNothing old.log new.log

  -- A call of a volume at a point: its answer is the model's, or an excused refusal; a stop at any moment leaves what it might have left
  -- before, or the state before or after the call, without files of no name, in the units that the volume had; where the call saves, what
  -- is left is the state after it.
  pub record ServesAt (old new : Mounted D) (call : Call) (answer : Answer) (p : Point) : Type 0 where
    pub next : Point
    pub at : IsAt new next
    pub answers : Answers (segments_of old) call p answer next
    pub leaves : LeavesStates (state old.log.device) (state new.log.device) (drop_nameless p.state ∷ drop_nameless next.state ∷ [])
    pub shape : LeavesShape (state old.log.device) (state new.log.device)
    pub saves : acknowledges call answer ≡ true → LeavesOne (state new.log.device) (drop_nameless next.state)

  -- A call: what holds over any device, and what holds at each point where the device keeps the model.
  pub record Serves (old new : Mounted D) (call : Call) (answer : Answer) : Type 0 where
    pub carries : Carries (state old.log.device) (state new.log.device)
    -- a failed commit leaves no table of segments to tell of
    pub segments : new.log.halted ≡ false → segments_of new ≡ segments_of old
    -- once a commit failed each call answers Halted, and does nothing
    pub orderly : old.log.halted ≡ true → (answer ≡ Refuse Halted) × (new ≡ old)
    pub halts : answer ≡ Refuse Halted → new.log.halted ≡ true
    pub behaves : Behaves old new call answer
    pub model : (p : Point) → (state new.log.device).keeps_model → IsAt old p → ServesAt old new call answer p

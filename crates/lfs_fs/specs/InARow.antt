-- Calls of a volume in a row, between which its device is tended to, and what a stop leaves of them.
-- The calls are those of POSIX.1-2017; what a stop leaves is an own choice.
use Rattle.std.specs.Prelude.{◌≡◌, ◌≤◌, ◌+◌, ℕ, Some, List, [], ◌∷◌, length, slice_get}
use Rattle.lfs_model.specs.Call.{Answer, Call}
use Rattle.lfs_model.specs.Device.{DeviceState, LeavesOnly, Only}
use Rattle.lfs_model.specs.Run.{Point, Run, final}
use Rattle.lfs_model.specs.Since.{Since, StandsFrom}
use Rattle.lfs_model.specs.Tree.{drop_nameless}
use Rattle.lfs_model.specs.TreeOf.{LeavesOne, Stands}
use Rattle.lfs_model.specs.Use.{StandsForSome}
use Rattle.lfs_model.specs.Volume.{LeavesPrefix}
use Rattle.lfs_store.specs.log.verify.declared.fault.MountFault.{MountFault}
use Rattle.lfs_store.specs.log.verify.declared.fault.MountFault.TheVariants.{NoMemory}
use Rattle.lfs_fs.specs.Available.{MountIsAvailable}
use Rattle.lfs_fs.specs.Mounting.{FindsState, MountsAt, MountsFs}
use Rattle.lfs_fs.specs.Seen.{seen}
use Rattle.lfs_fs.specs.Volume.{IsAt, IsStill, Mounted, Serves, segments_of}
use Rattle.lfs_fs.specs.declared.fs.Fs.{Fs}

module _ {D : Type 0} (state : D → DeviceState) where
  -- The device was tended to: the volume sees nothing of it, and no call of the device failed.
  pub record IsTended (old new : Mounted D) : Type 0 where
    pub still : IsStill state old new
    pub no_failure : (state new.log.device).failures ≡ (state old.log.device).failures

  -- Calls in a row with their answers, and the device's clock as each was answered. The device may be tended to at any time between.
  pub data ServesInARow (last : Mounted D) : Mounted D → List Call → List Answer → List ℕ → Type 0 where
    no_more : ServesInARow last last [] [] []
    is_served : {old : Mounted D} {calls : List Call} {answers : List Answer} {clocks : List ℕ} (new : Mounted D) (call : Call)
        (answer : Answer) → Serves state old new call answer → ServesInARow last new calls answers clocks
        → ServesInARow last old (call ∷ calls) (answer ∷ answers) ((state new.log.device).moment ∷ clocks)
    is_tended : {old : Mounted D} {calls : List Call} {answers : List Answer} {clocks : List ℕ} (new : Mounted D) → IsTended old new
        → ServesInARow last new calls answers clocks → ServesInARow last old calls answers clocks

  -- The volume is at this point, and a stop now leaves the state that it is in, without files of no name.
  pub record IsSavedAt (v : Mounted D) (p : Point) : Type 0 where
    pub at : IsAt state v p
    pub leaves : LeavesOne (state v.log.device) (drop_nameless p.state)

  -- The answers are a run of the model from the first point. A stop now leaves the state behind every acknowledged call, or a later one;
  -- and one at any moment since a clock, that of the start or of an answer, behind every call that was acknowledged by then.
  pub record AreKept (old new : Mounted D) (calls : List Call) (answers : List Answer) (clocks : List ℕ) (first : Point) : Type 0 where
    pub points : List Point
    pub run : Run (segments_of old) first calls answers points
    pub at : IsAt state new (final first points)
    pub moments : LeavesOnly (state old.log.device) (state new.log.device) (StandsForSome (first ∷ points))
    pub pending : LeavesPrefix (state new.log.device) (first ∷ points) calls answers
    pub since : (i t : ℕ) → slice_get ((state old.log.device).moment ∷ clocks) i ≡ Some t
        → Since (state new.log.device) (first ∷ points) calls answers i t
    pub past : (i t : ℕ) → slice_get clocks i ≡ Some t → t ≤ (state new.log.device).moment

  -- So it is of each list of calls, from a point on at which the volume is saved, over a device that keeps the model.
  abbrev pub CallsAreKept : Type 0
  CallsAreKept = (old new : Mounted D) (calls : List Call) (answers : List Answer) (clocks : List ℕ)
      → ServesInARow new old calls answers clocks → (state new.log.device).keeps_model → (first : Point) → IsSavedAt old first
      → AreKept old new calls answers clocks first

  -- A mount comes to such a point: of the state that the device's content stands for.
  pub record MountsSaved (device : D) (v : Fs D) : Type 0 where
    pub first : Point
    pub stands : Stands (state device).content first.state
    pub saved : IsSavedAt (seen v) first

  -- What the contract of a mount says of its state, and of what a stop leaves behind it, is enough for that.
  abbrev pub MountsAreSaved : Type 0
  MountsAreSaved = (device : D) (v : Fs D) → FindsState state device v
      → ((state (seen v).log.device).keeps_model → Only (state device).content (state (seen v).log.device))
      → (state (seen v).log.device).keeps_model → MountsSaved device v

  -- What such a stop leaves is mounted, in a state that holds every call of the first k that was acknowledged. It is refused for memory
  -- alone where the device keeps the model and bears two orders more.
  pub record IsMountedAgain (device : D) (points : List Point) (calls : List Call) (answers : List Answer) (k : ℕ)
      (left : StandsFrom points calls answers k (state device).content) : Type 0 where
    pub done : (v : Fs D) → MountsFs state device v → (state (seen v).log.device).keeps_model
        → MountsAt state v (drop_nameless left.point.state)
    pub refused : (new : D) (fault : MountFault) → MountIsAvailable (state device) (state new) fault → (state new).keeps_model
        → (state device).bears (length (state device).told + 2) → fault ≡ NoMemory

  abbrev pub LeftIsMounted : Type 0
  LeftIsMounted = (device : D) (points : List Point) (calls : List Call) (answers : List Answer) (k : ℕ)
      (left : StandsFrom points calls answers k (state device).content) → IsMountedAgain device points calls answers k left

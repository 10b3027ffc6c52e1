-- A whole use of a volume: a mount, the lines of a script, and what a stop leaves meanwhile and afterwards.
-- All of it is an own choice: POSIX.1-2017 says neither what a mount gives nor what a stop leaves.
use Rattle.std.specs.Prelude.{◌≡◌, ◌⊎◌, ℕ, false, List, ◌∷◌, map, Some}
use Rattle.std.specs.List.{AllByRecursion, Contains}
use Rattle.lfs_model.specs.Call.{Answer, Call, Refuse}
use Rattle.lfs_model.specs.Checkpoint.{CheckpointValue}
use Rattle.lfs_model.specs.Content.{Content, newest}
use Rattle.lfs_model.specs.Device.{AllLeft, DeviceState, LeavesOnly}
use Rattle.lfs_model.specs.Refusal.{Stuck}
use Rattle.lfs_model.specs.Run.{IsPending, LineRun, Point, final}
use Rattle.lfs_model.specs.Script.{Line, call_of}
use Rattle.lfs_model.specs.Tree.{State, drop_nameless}
use Rattle.lfs_model.specs.TreeOf.{Stands}
use Rattle.lfs_model.specs.UnitLaws.{shape_in}
use Rattle.lfs_model.specs.Volume.{LeavesPrefix, StandsForPrefix}

-- the states of these points as a mount after a stop gives them: without files of no name
abbrev pub left_states : List Point → List State
left_states points = map (λ p. drop_nameless p.state) points

-- the content stands for one of them
abbrev pub StandsForSome : List Point → Content → Type 0
StandsForSome points c = (s : State) × Contains (left_states points) s × Stands c s

-- none of the answers is Stuck
abbrev pub AreUnstuck : List Answer → Type 0
AreUnstuck = AllByRecursion (λ (a : Answer). a ≡ Refuse Stuck → ⊥)

-- the content's newest checkpoint has this number
abbrev pub IsNumbered : ℕ → Content → Type 0
IsNumbered number c = (k : CheckpointValue) × (newest c ≡ Some k) × (number ≡ k.number)

-- A use that goes on after an earlier run, of which a stop may have left only states that were pending then:
-- it begins with one of them, and what a stop leaves meanwhile stands for such a state or for one of its own.
pub record Continues (d d' : DeviceState) (before : List Point) (calls : List Call) (given : List Answer) (first : Point)
    (points : List Point) : Type 0 where
  pub began : (s : State) × IsPending before calls given s × (first.state ≡ drop_nameless s)
  pub moments : LeavesOnly d d' (λ c. StandsForPrefix c before calls given ⊎ StandsForSome (first ∷ points) c)

-- A use of a volume by these lines, from the device before its mount to the device at the end. It begins with the state that the
-- device's content stands for, on the segments and with the number of its checkpoint, and its answers are a run of the model from there.
pub record UsesVolume (d d' : DeviceState) (lines : List Line) (answers : List Answer) : Type 0 where
  -- what is seen of the volume after the mount, and after each line
  pub first : Point
  pub points : List Point
  pub segments : ℕ
  pub stands : Stands d.content first.state
  pub same_segments : segments ≡ stands.checkpoint.segments
  pub same_number : first.number ≡ stands.checkpoint.number
  pub running : first.halted ≡ false
  pub run : LineRun segments first lines answers points
  pub unstuck : AreUnstuck answers
  -- the failures that it counts are calls of the device that failed: none did in the mount
  pub failures_before : first.failures ≡ d.failures
  pub failures_after : (final first points).failures ≡ d'.failures
  pub orders_before : first.failed_orders ≡ d.failed_orders
  pub orders_after : (final first points).failed_orders ≡ d'.failed_orders
  -- the last number is that of the checkpoint which a stop now leaves, unless a commit failed
  pub number_after : (final first points).halted ≡ false → AllLeft d' (IsNumbered (final first points).number)
  -- a stop at the end leaves a volume with the shape of the one that was mounted
  pub same_shape : AllLeft d' (λ c. shape_in c ≡ shape_in d.content)
  -- a stop at any moment, in the mount too, leaves what one before it might have left, or the state after some of the lines
  pub moments : LeavesOnly d d' (λ c. d.may_leave c ⊎ StandsForSome (first ∷ points) c)
  -- and one at the end the state after lines that hold every line up to the last acknowledged sync
  pub pending : LeavesPrefix d' (first ∷ points) (map call_of lines) answers
  pub continues : (before : List Point) (calls : List Call) (given : List Answer) → LeavesPrefix d before calls given
      → Continues d d' before calls given first points

-- A device whose acknowledged checkpoint stands for a log map, whatever a stop leaves, and the checkpoint that a commit puts in its place.
-- Checkpoints written in turn, each once all that it leads to is on the device: the Sprite LFS paper (1992, section 4.1).
use Rattle.std.specs.Prelude.{◌≡◌, ◌≤◌, ◌%◌, ℕ, List, Some}
use Rattle.lfs_model.specs.Checkpoint.{CheckpointValue, unit_sectors, shape_of}
use Rattle.lfs_model.specs.Content.{Content, newest}
use Rattle.lfs_model.specs.Stands.{LogMap, StandsAt}
use Rattle.lfs_model.specs.Crash.{Keeps, IsFreeSector, IsReadyFor, StandsOn, StandsForOn}
use Rattle.lfs_model.specs.Device.{DeviceState, MayWriteUnit, CrashWritesUnit, IsUntouched, LieWithin, Only, put}
use Rattle.lfs_model.specs.Reach.{view}
use Rattle.lfs_model.specs.Stands.{used_in}
use Rattle.lfs_model.specs.UnitLaws.{unit_by}

-- What is there stands for the log map by the acknowledged checkpoint k, and what a stop now leaves has what k needs. The device's units
-- lie within those of the volume.
pub record IsSettled (d : DeviceState) (k : CheckpointValue) (m : LogMap) : Type 0 where
  pub units : LieWithin d.unit (unit_by (unit_sectors k))
  pub newest : newest d.content ≡ Some k
  pub stands : StandsAt d.content k m
  pub each : (c : Content) → d.may_leave c → Keeps d.content k c

-- the acknowledged checkpoint has no use for the sectors of a segment from this place on
abbrev pub IsFreeFrom : Content → CheckpointValue → ℕ → ℕ → Type 0
IsFreeFrom c k s place = used_in (view c k) s ≤ place

-- What is there is laid out for the next checkpoint, which is to be written to this slot.
pub record IsPlanned (k : CheckpointValue) (e : Content) (slot : ℕ) (bytes : List ℕ) (next : CheckpointValue) (m' : LogMap) : Type 0 where
  pub place : slot ≡ next.number % 2
  pub ready : IsReadyFor e k next bytes m'

-- All that a stop may leave stands for the log map on a volume of k's shape.
abbrev pub SettledStands : Type 1
SettledStands = (d : DeviceState) (k : CheckpointValue) (m : LogMap) → IsSettled d k m → (c : Content) → d.may_leave c
    → StandsOn (shape_of k) c m

-- A write to a free sector, done or failed, keeps it so, and the segments that k doesn't use are the same.
abbrev pub SettledWrite : Type 1
SettledWrite = (d d' : DeviceState) (k : CheckpointValue) (m : LogMap) (at : ℕ) (bytes : List ℕ) → IsSettled d k m
    → IsFreeSector d.content k at
    → MayWriteUnit d.unit at bytes d.content d'.content → CrashWritesUnit at bytes d d' → d'.unit ≡ d.unit
    → IsSettled d' k m × ((s : ℕ) → used_in (view d'.content k) s ≡ used_in (view d.content k) s)

-- So does a call that leaves the content, and leaves no more to a stop.
abbrev pub SettledStill : Type 1
SettledStill = (d d' : DeviceState) (k : CheckpointValue) (m : LogMap) → IsSettled d k m → IsUntouched d d' → d'.unit ≡ d.unit
    → IsSettled d' k m

-- Once all is durable, the write of the next checkpoint's slot leaves, at each stop, the one log map or the other, in the same shape.
abbrev pub SlotTorn : Type 1
SlotTorn = (d d' : DeviceState) (k next : CheckpointValue) (m m' : LogMap) (slot : ℕ) (bytes : List ℕ) → IsSettled d k m
    → IsPlanned k d.content slot bytes next m'
    → shape_of next ≡ shape_of k → Only d.content d → CrashWritesUnit slot bytes d d' → (c : Content) → d'.may_leave c
    → StandsForOn (shape_of k) m m' c

-- And once that is durable, the other.
abbrev pub Acknowledged : Type 1
Acknowledged = (d d' : DeviceState) (k next : CheckpointValue) (m m' : LogMap) (slot : ℕ) (bytes : List ℕ) → IsSettled d k m
    → IsPlanned k d.content slot bytes next m'
    → next.unit_power ≡ k.unit_power → d'.content ≡ put d.content slot bytes → Only d'.content d' → d'.unit ≡ d.unit → IsSettled d' next m'

-- Devices whose units are larger than a sector: what a stop within a write of one leaves, and what of that can't hurt. Drives write units
-- of 4 KiB and more (their reports of a physical sector: SCSI's READ CAPACITY, ATA's IDENTIFY DEVICE). What one makes of them is an own
-- choice.
use Rattle.std.specs.Prelude.{◌≡◌, ◌↔◌, ◌<◌, ◌≤◌, ◌+◌, ◌*◌, ◌/◌, ℕ, zero, suc, List, Option, Some, None}
use Rattle.lfs_model.specs.Checkpoint.{CheckpointValue, Shape, layout_version, shape_of, unit_sectors}
use Rattle.lfs_model.specs.Content.{Content, newest}
use Rattle.lfs_model.specs.Crash.{Keeps, IsFreeSector}
use Rattle.lfs_model.specs.Device.{AreSectors, Cell, CrashWrites, CrashWritesUnit, DeviceState, LieWithin, MayWrite, MayWriteUnit}
use Rattle.lfs_model.specs.Device.{LeavesOnly, in_units}
use Rattle.lfs_model.specs.Reach.{view, segment_start}
use Rattle.lfs_model.specs.Stands.{LogMap, StandsLog, used_in}
use Rattle.lfs_model.specs.declared.limits.TheConstants.{LAST_SECTOR_VERSION, SEGMENT_SECTORS}

-- the units of a volume: each slot is one by itself, and the segments are cut into units of u sectors
abbrev pub unit_by : ℕ → ℕ → ℕ
unit_by u zero = 0
unit_by u (suc zero) = 1
unit_by u (suc (suc k)) = 2 + k / u

-- those that a checkpoint names, which are sectors where there is none
abbrev pub units_by : Option CheckpointValue → ℕ → ℕ
units_by None = λ k. k
units_by (Some k) = unit_by (unit_sectors k)

-- those of the volume that this is
abbrev pub units_of : Content → ℕ → ℕ
units_of c = units_by (newest c)

-- In the versions that have no larger ones each is a sector.
abbrev pub UnitsOfSectors : Type 0
UnitsOfSectors = (c : Content) (k : CheckpointValue) → newest c ≡ Some k → layout_version k ≤ LAST_SECTOR_VERSION
    → units_of c ≡ (λ (j : ℕ). j)

-- the shape of a checkpoint, where there is one
abbrev pub shape_by : Option CheckpointValue → Option Shape
shape_by None = None
shape_by (Some k) = Some (shape_of k)

-- that of the volume that this is
abbrev pub shape_in : Content → Option Shape
shape_in c = shape_by (newest c)

-- Volumes of one shape have the same units.
abbrev pub UnitsByShape : Type 0
UnitsByShape = (c b : Content) → shape_in c ≡ shape_in b → units_of c ≡ units_of b

-- a volume with the shape of one that a stop of this device may leave
abbrev pub HasShapeOf : DeviceState → Content → Type 0
HasShapeOf d c = (b : Content) × d.may_leave b × (shape_in c ≡ shape_in b)

-- A stop at any moment since `old` leaves such a one.
abbrev pub LeavesShape : DeviceState → DeviceState → Type 0
LeavesShape old new = LeavesOnly old new (HasShapeOf old)

-- A write to a sector that is a unit by itself does what it does where all units are sectors.
abbrev pub UnitOfOne : Type 0
UnitOfOne = (unit : ℕ → ℕ) (sector : ℕ) → ((k : ℕ) → unit k ≡ unit sector → k ≡ sector) → (bytes : List ℕ) (old new : List Cell)
    → MayWriteUnit unit sector bytes old new ↔ MayWrite sector bytes old new

-- Units that lie within larger ones: a write does no more harm than it may with those.
abbrev pub UnitsWithin : Type 0
UnitsWithin = (unit within : ℕ → ℕ) → LieWithin unit within → (sector : ℕ) (bytes : List ℕ) (old new : List Cell)
    → MayWriteUnit unit sector bytes old new → MayWriteUnit within sector bytes old new

-- So what a stop leaves of a device is what one leaves of the device as one of larger units.
abbrev pub CrashWithin : Type 1
CrashWithin = (unit : ℕ → ℕ) (old new : DeviceState) (sector : ℕ) (bytes : List ℕ) → new.unit ≡ old.unit
    → CrashWritesUnit sector bytes old new → CrashWritesUnit sector bytes (in_units unit old) (in_units unit new)

-- Where units are sectors, each sector is by itself.
abbrev pub CrashOfSectors : Type 1
CrashOfSectors = (old new : DeviceState) (sector : ℕ) (bytes : List ℕ) → AreSectors old.unit → CrashWritesUnit sector bytes old new
    → CrashWrites sector bytes old new

-- A write into a unit of which each sector is free leaves the acknowledged checkpoint as it is, at each stop.
abbrev pub FreeUnitWrites : Type 0
FreeUnitWrites = (unit : ℕ → ℕ) (c : Content) (m : LogMap) (s : StandsLog c m) (at : ℕ) (bytes : List ℕ)
    → ((j : ℕ) → unit j ≡ unit at → IsFreeSector c s.checkpoint j) → (d d' : Content)
    → Keeps c s.checkpoint d → MayWriteUnit unit at bytes d d' → Keeps c s.checkpoint d'

-- Each is, where the used part of its segment ends on a unit, and units fill a segment.
abbrev pub AlignedFree : Type 0
AlignedFree = (u e f : ℕ) (c : Content) (k : CheckpointValue) (s place : ℕ) → 0 < u → e * u ≡ SEGMENT_SECTORS
    → used_in (view c k) s ≡ f * u
    → used_in (view c k) s ≤ place → place < SEGMENT_SECTORS → s < k.segments
    → (j : ℕ) → unit_by u j ≡ unit_by u (segment_start s + place) → IsFreeSector c k j

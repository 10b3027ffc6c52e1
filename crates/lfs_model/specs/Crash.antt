-- What a crash may do to a content, and what of it can't hurt.
-- That a checkpoint alone leads to a consistent state, and blocks that
-- it needs aren't overwritten: the Sprite LFS paper (1992, section 4.1).
use Rattle.std.specs.Prelude.{◌≡◌, ◌<◌, ◌≤◌, ◌⊎◌, ◌+◌, ◌%◌, ℕ, List, length, Some}
use Rattle.lfs_model.specs.Checkpoint.{CheckpointValue, Shape, checkpoint_in, is_last, layout_version, shape_of}
use Rattle.lfs_model.specs.Content.{Content, newest}
use Rattle.lfs_model.specs.Device.{MayWrite, cell_at, put}
use Rattle.lfs_model.specs.Reach.{view, segment_start}
use Rattle.lfs_model.specs.Stands.{LogMap, Protected, StandsAt, StandsLog, used_in}
use Rattle.lfs_model.specs.declared.limits.TheConstants.{SEGMENT_SECTORS}

-- d has what c's newest checkpoint k needs
pub record Keeps (c : Content) (k : CheckpointValue) (d : Content) : Type 0 where
  pub size : length d ≡ length c
  pub newest : newest d ≡ Some k
  pub same : (at : ℕ) → Protected (view c k) at → cell_at d at ≡ cell_at c at

-- a sector past the used part of its segment: a clean segment has no used part
pub record IsFreeSector (c : Content) (k : CheckpointValue) (at : ℕ) : Type 0 where
  pub segment : ℕ
  pub place : ℕ
  pub is : at ≡ segment_start segment + place
  pub within : place < SEGMENT_SECTORS
  pub below : segment < k.segments
  pub unused : used_in (view c k) segment ≤ place

-- the content is ready for the checkpoint `next`, which isn't in its slot yet
pub record IsReadyFor (c : Content) (k next : CheckpointValue) (bytes : List ℕ) (m : LogMap) : Type 0 where
  pub number : next.number ≡ k.number + 1
  pub last : is_last (layout_version next) ≡ is_last (layout_version k)
  pub spelt : checkpoint_in bytes ≡ Some next
  pub stands : StandsAt c next m

-- the content stands for the log map, by a checkpoint of this shape
pub record StandsOn (shape : Shape) (c : Content) (m : LogMap) : Type 0 where
  pub is : StandsLog c m
  pub same : shape_of is.checkpoint ≡ shape

-- each crash content stands for the one or the other, on a volume of this shape
abbrev pub StandsForOn : Shape → LogMap → LogMap → Content → Type 0
StandsForOn shape m m' c = StandsOn shape c m ⊎ StandsOn shape c m'

-- The promises, for a function's contract.

abbrev pub Locality : Type 0
Locality = (c d : Content) (m : LogMap) (s : StandsLog c m) → Keeps c s.checkpoint d → StandsLog d m

abbrev pub SingleLog : Type 0
SingleLog = (c : Content) (m m' : LogMap) → StandsLog c m → StandsLog c m' → m ≡ m'

-- A write to a sector that is free for the acknowledged checkpoint leaves it as it is, at each crash.
abbrev pub FreeWrites : Type 0
FreeWrites = (c : Content) (m : LogMap) (s : StandsLog c m) (at : ℕ) (bytes : List ℕ) → IsFreeSector c s.checkpoint at → (d d' : Content)
    → Keeps c s.checkpoint d → MayWrite at bytes d d' → Keeps c s.checkpoint d'

-- The write of the next checkpoint to its slot. Each content is left with the shape of the checkpoint that it stands by.
abbrev pub SlotWrite : Type 0
SlotWrite = (c : Content) (m : LogMap) (s : StandsLog c m) (e : Content) → Keeps c s.checkpoint e
    → (next : CheckpointValue) (bytes : List ℕ) (m' : LogMap) → IsReadyFor e s.checkpoint next bytes m'
    → ((d : Content) → MayWrite (next.number % 2) bytes e d → StandsOn (shape_of s.checkpoint) d m ⊎ StandsOn (shape_of next) d m')
    × (newest (put e (next.number % 2) bytes) ≡ Some next) × StandsAt (put e (next.number % 2) bytes) next m'

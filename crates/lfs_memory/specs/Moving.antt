-- Blocks change their places one at a time while the log map stays: one comes into memory, or goes out.
use Rattle.std.specs.Prelude.{◌≡◌, ◌<◌, ◌≤◌, ◌⊎◌, ◌+◌, ℕ, length}
use Rattle.lfs_model.specs.Checkpoint.{CheckpointValue}
use Rattle.lfs_model.specs.Counting.{segment_of}
use Rattle.lfs_model.specs.declared.limits.TheConstants.{SEGMENT_SECTORS}
use Rattle.lfs_model.specs.Device.{DeviceState, cell_at}
use Rattle.lfs_model.specs.Entry.{Entry}
use Rattle.lfs_model.specs.Memory.{Memory, IsOfFile}
use Rattle.lfs_model.specs.Reach.{segment_start}
use Rattle.lfs_model.specs.Stands.{LogMap}
use Rattle.lfs_segments.specs.Table.{used_of}
use Rattle.lfs_memory.specs.declared.memory.LogMemory.{LogMemory}
use Rattle.lfs_memory.specs.Memory.{IsLog}

-- A block of a file that stood on the device is in memory. A block of the tables may be one that will be written.
pub record ComesIn (M M' : Memory) (x : Entry) : Type 0 where
  pub was : 2 ≤ M.at x
  pub now : M'.at x ≡ 1
  pub others : (y : Entry) → IsOfFile y → (y ≡ x → ⊥) → M'.at y ≡ M.at y
  pub tables : (y : Entry) → (IsOfFile y → ⊥) → (M'.at y ≡ M.at y) ⊎ (M'.at y ≡ 1)

-- A block that was in memory stands on the device, in this segment, and no other one moves.
pub record GoesOut (M M' : Memory) (x : Entry) : Type 0 where
  pub was : M.at x ≡ 1
  pub now : 2 ≤ M'.at x
  pub others : (y : Entry) → (y ≡ x → ⊥) → M'.at y ≡ M.at y

-- no block moves
abbrev pub StaysPut : Memory → Memory → Type 0
StaysPut M M' = (y : Entry) → M'.at y ≡ M.at y

-- where memory and device hold a log map, they do so after a call, and what memory holds of it is so
abbrev pub HoldsOn : DeviceState → DeviceState → LogMemory → LogMemory → (Memory → Memory → Type 0) → Type 0
HoldsOn d d' v v' P = (k : CheckpointValue) (m0 m : LogMap) → d'.keeps_model → (is : IsLog d v k m0 m)
    → (is' : IsLog d' v' k m0 m) × P is.running.memory is'.running.memory

-- so x comes in by a call
abbrev pub MovesIn : DeviceState → DeviceState → LogMemory → LogMemory → Entry → Type 0
MovesIn d d' v v' x = HoldsOn d d' v v' (λ (M M' : Memory). ComesIn M M' x)

-- or goes out, to the segment where the chunk stands
abbrev pub MovesOut : DeviceState → DeviceState → LogMemory → LogMemory → Entry → Type 0
MovesOut d d' v v' x = HoldsOn d d' v v' (λ (M M' : Memory). GoesOut M M' x × (segment_of (M'.at x) ≡ v'.chunk.segment))

-- ---- sectors that are spared

-- so many sectors of each segment lie before what is written next: behind its chunks, or at the start of the one that has begun
pub record LieBefore (count : ℕ → ℕ) (v : LogMemory) : Type 0 where
  pub used : (s : ℕ) → count s ≤ used_of v.usage s
  pub begun : 0 < length v.chunk.names → count v.chunk.segment ≤ v.chunk.start

-- these have what they had
abbrev pub SameBefore : (ℕ → ℕ) → DeviceState → DeviceState → Type 0
SameBefore count d d' = d'.keeps_model → (s place : ℕ) → place < count s → place < SEGMENT_SECTORS
    → cell_at d'.content (segment_start s + place) ≡ cell_at d.content (segment_start s + place)

-- a call spares them, and they lie before what is written behind it
abbrev pub Spares : DeviceState → DeviceState → LogMemory → LogMemory → Type 0
Spares d d' v v' = (count : ℕ → ℕ) → LieBefore count v → LieBefore count v' × SameBefore count d d'

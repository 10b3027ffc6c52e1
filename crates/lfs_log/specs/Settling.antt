-- What the steps do by which the usage blocks that changed get new places.
use Rattle.std.specs.Prelude.{◌≡◌, ◌<◌, ◌≤◌, ◌+◌, ◌-◌, ◌/◌, ℕ, true, false, length}
use Rattle.lfs_model.specs.declared.limits.TheConstants.{BLOCK_SEGMENTS, CHECKPOINT_SLOTS}
use Rattle.lfs_model.specs.Counting.{segment_of}
use Rattle.lfs_model.specs.Running.{IsSet}
use Rattle.lfs_memory.specs.segments.Table.{UsageTable, live_of, kept_of, address_of, stale_of}
use Rattle.lfs_memory.specs.segments.Chunk.{IsUnkeptBy, usage_name}
use Rattle.lfs_memory.specs.segments.Steps.{Lifts, PutsPlace}
use Rattle.lfs_memory.specs.declared.memory.LogMemory.{LogMemory}
use Rattle.lfs_memory.specs.Memory.{Places}

-- usage block j lives on the device
pub record IsThere (t : UsageTable) (j : ℕ) : Type 0 where
  pub above : CHECKPOINT_SLOTS ≤ address_of t j
  pub inside : segment_of (address_of t j) < length t.segments
  pub live : 0 < live_of t (segment_of (address_of t j))

-- it neither lives there nor has left its address before
pub record IsNowhere (t : UsageTable) (j : ℕ) : Type 0 where
  pub stayed : address_of t j ≡ 1 → ⊥
  pub lost : IsThere t j → ⊥

-- it lives no more at its address, which it may have left before
pub record Leaves (old new : UsageTable) (j : ℕ) : Type 0 where
  pub left : address_of old j ≡ 1 → new ≡ old
  pub above : (address_of old j ≡ 1 → ⊥) → CHECKPOINT_SLOTS ≤ address_of old j
  pub lifts : (address_of old j ≡ 1 → ⊥) → Lifts old new (segment_of (address_of old j)) true

-- Usage block j leaves its address, and gets the next place.
pub record Resettles (v v' : LogMemory) (j number : ℕ) : Type 0 where
  pub lifted : UsageTable
  pub leaves : Leaves v.usage lifted j
  pub placed : LogMemory
  pub place : ℕ
  pub places : Places (record v { usage = lifted }) placed (usage_name j) true number place
  pub puts : PutsPlace placed.usage v'.usage j place true
  pub map : v'.map ≡ placed.map
  pub dirty : v'.dirty ≡ placed.dirty
  pub chunk : v'.chunk ≡ placed.chunk

-- usage block j stands where the acknowledged checkpoint needs nothing
abbrev pub IsAnew : UsageTable → ℕ → Type 0
IsAnew t j = (CHECKPOINT_SLOTS ≤ address_of t j) × (segment_of (address_of t j) < length t.segments) × IsUnkeptBy t (address_of t j)

-- usage block j stands there now, the others as before
pub record IsResettled (old new : UsageTable) (j : ℕ) : Type 0 where
  pub own : IsAnew new j
  pub others : (i : ℕ) → (i ≡ j → ⊥) → address_of new i ≡ address_of old i
  pub kept : (s : ℕ) → kept_of new s ≡ kept_of old s
  pub segments : length new.segments ≡ length old.segments

-- how many usage blocks there are
abbrev pub blocks_in : UsageTable → ℕ
blocks_in t = (length t.segments + (BLOCK_SEGMENTS - 1)) / BLOCK_SEGMENTS

-- all usage blocks that changed stand there
abbrev pub AreAnew : UsageTable → Type 0
AreAnew t = (j : ℕ) → j < blocks_in t → stale_of t j ≡ true → IsAnew t j

-- usage block j isn't stale any more, and all else is as before
pub record IsFilled (old new : UsageTable) (j : ℕ) : Type 0 where
  pub segments : new.segments ≡ old.segments
  pub address : (i : ℕ) → address_of new i ≡ address_of old i
  pub stale : IsSet (stale_of old) (stale_of new) j false

-- What a content holds while an empty volume is made on it, and what a stop leaves then.
-- First the sectors are cleared at which a slot may stand, then the first chunk is written, and its checkpoint last; the layout is this
-- project's own.
use Rattle.std.specs.Prelude.{◌≡◌, ◌⊎◌, ◌+◌, ◌<◌, ◌≤◌, cond, ℕ, [], ◌∷◌, length, Some, None, Result, OnOk, OnErr}
use Rattle.lfs_model.specs.declared.limits.TheConstants.{SECTOR_LEN}
use Rattle.lfs_model.specs.Checkpoint.{is_last, usage_blocks}
use Rattle.lfs_model.specs.Content.{Content, newest}
use Rattle.lfs_model.specs.Device.{AreSectors, Cell, cell_at, DeviceState, AllLeft, Carries, ComesFrom, LeavesOnly, Only}
use Rattle.lfs_model.specs.Image.{blank, first_names, first_pointers, first_checkpoint, first_uses, root_inode, IsNew}
use Rattle.lfs_model.specs.Inode.{inode_sector}
use Rattle.lfs_model.specs.Pointers.{pointer_sector}
use Rattle.lfs_model.specs.Summary.{summary_sector}
use Rattle.lfs_model.specs.Tree.{Dir, new_form}
use Rattle.lfs_model.specs.TreeOf.{Stands}
use Rattle.lfs_model.specs.Usage.{usage_sector}
use Rattle.lfs_model.specs.Volume.{mounted}
use Rattle.lfs_places.specs.declared.Places.{Places}
use Rattle.lfs_places.specs.declared.Places.TheVariants.{Old, New}
use Rattle.lfs_places.specs.declared.limits.TheConstants.{SECOND_SLOT}
use Rattle.lfs_places.specs.Places.{place_of, volume_content}

-- the places by which a volume of a version stands
abbrev pub places_by : ℕ → Places
places_by version = cond (is_last version) New Old

-- the sectors of the device that are cleared first: a slot stands at each of them by one of the places
abbrev pub IsCleared : ℕ → Type 0
IsCleared k = (k ≡ 0) ⊎ ((k ≡ 1) ⊎ (k ≡ SECOND_SLOT))

-- the one of them at which no slot stands by these places
abbrev pub unused_slot : Places → ℕ
unused_slot Old = SECOND_SLOT
unused_slot New = 1

-- the same but for the sectors that are so
pub record SameBut (Other : ℕ → Type 0) (old new : Content) : Type 0 where
  pub size : length new ≡ length old
  pub others : (k : ℕ) → (Other k → ⊥) → cell_at new k ≡ cell_at old k

-- a sector as it was, cleared, or unreadable
pub data MayClear (old new : Cell) : Type 0 where
  left_as_was : new ≡ old → MayClear old new
  left_clear : new ≡ Some (blank SECTOR_LEN) → MayClear old new
  left_unreadable : new ≡ None → MayClear old new

-- The same but for the sectors that are cleared first, each of which may be cleared. The first two are as they were until the third is
-- clear, so none of them uncovers a checkpoint there.
pub record MayClearSlots (old new : Content) : Type 0 where
  pub others : SameBut IsCleared old new
  pub slots : (k : ℕ) → IsCleared k → MayClear (cell_at old k) (cell_at new k)
  pub in_order : ((cell_at new 0 ≡ cell_at old 0) × (cell_at new 1 ≡ cell_at old 1)) ⊎ (cell_at new SECOND_SLOT ≡ Some (blank SECTOR_LEN))

-- all of them are cleared
pub record AreClear (c : Content) : Type 0 where
  pub each : (k : ℕ) → IsCleared k → cell_at c k ≡ Some (blank SECTOR_LEN)

-- there is no checkpoint by either of the places
abbrev pub HasNone : Content → Type 0
HasNone c = (newest c ≡ None) × (newest (volume_content New c) ≡ None)

-- the new volume stands, and the cleared sector that is none of its slots is clear: whoever looks for the places of a volume reads it
pub record IsMade (version N p : ℕ) (c : Content) : Type 0 where
  pub image : IsNew version N p (volume_content (places_by version) c)
  pub clear : cell_at c (unused_slot (places_by version)) ≡ Some (blank SECTOR_LEN)

-- the sectors of the device at which the first chunk stands, as far as its last usage block
abbrev pub IsOfChunk : ℕ → ℕ → ℕ → Type 0
IsOfChunk version N k = (j : ℕ) × (2 ≤ j) × (j < 5 + usage_blocks N) × (k ≡ place_of (places_by version) j)

-- the sectors that change where a volume is made
abbrev pub MayChange : ℕ → ℕ → ℕ → Type 0
MayChange version N k = IsCleared k ⊎ IsOfChunk version N k

-- The first chunk of a volume of N segments, in a version of the layout and with units of 2 to the power p sectors, was written over a
-- device's content, as far as its first n usage blocks.
pub record HasChunk (version N p n : ℕ) (old new : Content) : Type 0 where
  pub others : SameBut (IsOfChunk version N) old new
  pub summary : cell_at new (place_of (places_by version) 2) ≡ Some (summary_sector (first_names N p))
  pub inode : cell_at new (place_of (places_by version) 3) ≡ Some (inode_sector (root_inode version))
  pub pointers : cell_at new (place_of (places_by version) 4) ≡ Some (pointer_sector first_pointers)
  pub uses : (j : ℕ) → j < n → cell_at new (place_of (places_by version) (5 + j)) ≡ Some (usage_sector (first_uses N p j))

-- What a stop leaves while a volume of N segments is made: what a stop might
-- have left before, with the sectors that are cleared first as they were, cleared or unreadable;
-- or no checkpoint; or the new volume.
abbrev pub MayStand : ℕ → ℕ → ℕ → DeviceState → Content → Type 0
MayStand version N p old c = ComesFrom old MayClearSlots c ⊎ (HasNone c ⊎ IsMade version N p c)

-- the same but for the sectors that are cleared first and those of the first chunk of a volume of N segments
abbrev pub SameBehindChunk : ℕ → ℕ → Content → Content → Type 0
SameBehindChunk version N = SameBut (MayChange version N)

-- Writes of blocks of the first chunk. Where the device's units are sectors, clear slots stay clear at any moment, and no sector but those
-- of the chunk changes.
pub record WritesChunk (version N : ℕ) (old new : DeviceState) : Type 0 where
  pub any_moment : AreSectors old.unit → AllLeft old AreClear → LeavesOnly old new AreClear
  pub left : AreSectors old.unit → AllLeft old AreClear → AllLeft new AreClear
  pub touched : AreSectors old.unit → LeavesOnly old new (ComesFrom old (SameBehindChunk version N))
  pub carries : Carries old new

-- How a call ends that writes: one that failed counts a failure, and one that is done counts none.
pub record EndsWriting {T E : Type 0} (old new : DeviceState) (result : Result T E) : Type 0 where
  pub failed : OnErr result (old.failures < new.failures)
  pub no_failure : OnOk result (new.failures ≡ old.failures)

-- A volume of N segments was being made, whatever came of it: what a stop leaves at any moment, and what stays as it was. Both are said
-- where the device's units are sectors: a write spoils other sectors of a larger unit, which may be any.
pub record IsMaking (version N p : ℕ) (old new : DeviceState) : Type 0 where
  pub any_moment : AreSectors old.unit → new.keeps_model → LeavesOnly old new (MayStand version N p old)
  pub touched : AreSectors old.unit → LeavesOnly old new (ComesFrom old (SameBehindChunk version N))
  pub carries : Carries old new

-- A volume of N segments was made, whatever the units are: no call failed, and a stop leaves the new volume alone, which stands for an
-- empty root. The cleared sector that is none of its slots is clear.
pub record HasMade (version N p : ℕ) (old new : DeviceState) : Type 0 where
  pub no_failure : new.failures ≡ old.failures
  pub image : new.keeps_model → IsNew version N p (volume_content (places_by version) new.content)
  pub volume : new.keeps_model
      → Stands (volume_content (places_by version) new.content) (mounted version ((1, Dir (new_form version) []) ∷ []))
  pub checkpoint : new.keeps_model → newest (volume_content (places_by version) new.content) ≡ Some (first_checkpoint version N p)
  pub clear : new.keeps_model → cell_at new.content (unused_slot (places_by version)) ≡ Some (blank SECTOR_LEN)
  pub durable : new.keeps_model → Only new.content new
  pub others : new.keeps_model → SameBehindChunk version N old.content new.content

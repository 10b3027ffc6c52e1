-- The two checkpoint slots, sectors 0 and 1, and the newest checkpoint of a content.
-- Two regions written in turn, of which the newer counts, are those of the Sprite
-- LFS paper (1992, section 4.1); which slot a number has, and which version goes before the other, are own choices.
use Rattle.std.specs.Prelude.{◌≡◌, ◌⊎◌, ◌<◌, ◌≤◌, ◌%◌, ℕ, Option, Some, None, List}
use Rattle.lfs_model.specs.Checkpoint.{CheckpointValue, FitsCheckpoint, checkpoint_sector, rank}
use Rattle.lfs_model.specs.Device.{Cell, cell_at}

-- A slot holds a checkpoint: it spells it, and the checkpoint's number has the slot's parity.
pub record HoldsCheckpoint (content : List Cell) (slot : ℕ) (c : CheckpointValue) : Type 0 where
  pub fits : FitsCheckpoint c
  pub spells : cell_at content slot ≡ Some (checkpoint_sector c)
  pub parity : c.number % 2 ≡ slot

-- what a slot holds
abbrev pub SlotHolds : List Cell → ℕ → Option CheckpointValue → Type 0
SlotHolds content slot None = (c : CheckpointValue) → ¬ (HoldsCheckpoint content slot c)
SlotHolds content slot (Some c) = HoldsCheckpoint content slot c

-- A slot holds the checkpoint, and no slot holds one of a greater rank.
pub record IsNewest (content : List Cell) (c : CheckpointValue) : Type 0 where
  pub held : HoldsCheckpoint content (c.number % 2) c
  pub greatest : (slot : ℕ) (d : CheckpointValue) → slot < 2 → HoldsCheckpoint content slot d → rank d ≤ rank c

-- neither slot holds a checkpoint
abbrev pub HasNoCheckpoint : List Cell → Type 0
HasNoCheckpoint content = (slot : ℕ) (c : CheckpointValue) → slot < 2 → ¬ (HoldsCheckpoint content slot c)

-- the newest checkpoint of the content, if it has one
abbrev pub NewestIs : List Cell → Option CheckpointValue → Type 0
NewestIs content None = HasNoCheckpoint content
NewestIs content (Some c) = IsNewest content c

-- the newest checkpoint of the content is one of these
abbrev pub NewestIsOneOf : CheckpointValue → CheckpointValue → List Cell → Type 0
NewestIsOneOf last next content = IsNewest content last ⊎ IsNewest content next

-- The checkpoint slots of contents that agree on them.
use Rattle.std.proofs.Common.{◌≡◌, ℕ, List, ◌∙◌}
use Rattle.lfs_model.specs.Checkpoint.{CheckpointValue}
use Rattle.lfs_model.specs.Device.{Cell, cell_at}
use Rattle.lfs_model.specs.Slots.{HoldsCheckpoint}

-- what a slot holds is read from its cell alone
pub held_same : {content : List Cell} (other : List Cell) {slot : ℕ} (c : CheckpointValue) → cell_at other slot ≡ cell_at content slot
    → HoldsCheckpoint content slot c → HoldsCheckpoint other slot c
held_same other c same held = record { fits = held.fits; spells = same ∙ held.spells; parity = held.parity }

-- Where the sectors of a volume stand on a device, and what a volume has of a device's content. The new places are an own choice: each slot
-- and the segments begin 64 KiB after what stands before them, so that none shares a unit of the device with another.
use Rattle.std.specs.Prelude.{◌==◌, ℕ, zero, suc, ◌+◌, ◌-◌, nat_lt, cond, ◌∷◌, drop}
use Rattle.lfs_model.specs.Content.{Content}
use Rattle.lfs_model.specs.Device.{cell_at}
use Rattle.lfs_model.specs.declared.limits.TheConstants.{CHECKPOINT_SLOTS}
use Rattle.lfs_places.specs.declared.Places.{Places}
use Rattle.lfs_places.specs.declared.Places.TheVariants.{Old, New}
use Rattle.lfs_places.specs.declared.limits.TheConstants.{SECOND_SLOT, FIRST_SEGMENT}

-- the sector of the device at which a sector of the volume stands
abbrev pub place_of : Places → ℕ → ℕ
place_of Old sector = sector
place_of New zero = 0
place_of New (suc zero) = SECOND_SLOT
place_of New (suc (suc sector)) = FIRST_SEGMENT + sector

-- The sector of the volume that stands at a sector of the device. Where none does it is of no use.
abbrev pub volume_sector : Places → ℕ → ℕ
volume_sector Old place = place
volume_sector New place =
    cond (place == SECOND_SLOT) 1 (cond (nat_lt place FIRST_SEGMENT) place (CHECKPOINT_SLOTS + (place - FIRST_SEGMENT)))

-- how many sectors of a device are free or hold a slot, and so how many it has at least
abbrev pub least_size : Places → ℕ
least_size Old = 0
least_size New = FIRST_SEGMENT

-- how many sectors a volume has on a device of so many
abbrev pub volume_size : Places → ℕ → ℕ
volume_size Old size = size
volume_size New size = CHECKPOINT_SLOTS + (size - FIRST_SEGMENT)

-- the two slots and all behind them
unfoldable pub slots_and_rest : ℕ → ℕ → Content → Content
slots_and_rest second rest content = cell_at content 0 ∷ cell_at content second ∷ drop rest content

-- what the volume has of a device's content
abbrev pub volume_content : Places → Content → Content
volume_content Old content = content
volume_content New content = slots_and_rest SECOND_SLOT FIRST_SEGMENT content

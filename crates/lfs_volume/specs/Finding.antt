-- Where the volume stands that a device holds. A volume of a version before the last stands
-- by the old places, and one of the last by the new: no slot needs to say where the other is. All of it is an own choice.
use Rattle.std.specs.Prelude.{◌||◌, ℕ, Bool, false, cond, not, nat_lt, Option, Some, None}
use Rattle.lfs_model.specs.Checkpoint.{CheckpointValue, checkpoint_in, is_last, layout_version}
use Rattle.lfs_model.specs.Content.{Content, bytes_of, with_parity}
use Rattle.lfs_model.specs.Device.{cell_at}
use Rattle.lfs_model.specs.declared.limits.TheConstants.{LEAST_SECTORS}
use Rattle.lfs_places.specs.declared.Places.{Places}
use Rattle.lfs_places.specs.declared.Places.TheVariants.{Old, New}
use Rattle.lfs_places.specs.declared.limits.TheConstants.{SECOND_SLOT}
use Rattle.lfs_volume.specs.declared.limits.TheConstants.{LEAST_NEW}

-- it is a checkpoint of a version before the last
abbrev pub is_older : Option CheckpointValue → Bool
is_older None = false
is_older (Some k) = not (is_last (layout_version k))

-- The sector at this place spells one whose number has this parity.
abbrev pub holds_older : Content → ℕ → ℕ → Bool
holds_older content place parity = is_older (with_parity parity (checkpoint_in (bytes_of (cell_at content place))))

-- Where the volume stands on a device of so many sectors that holds this, if one may stand there. By the new places the slots hold no
-- checkpoint of an older version.
abbrev pub found_places : ℕ → Content → Option Places
found_places size content =
    cond (nat_lt size LEAST_SECTORS) None
    (cond (holds_older content 0 0 || holds_older content 1 1) (Some Old)
    (cond (nat_lt size LEAST_NEW || holds_older content SECOND_SLOT 1) None (Some New)))

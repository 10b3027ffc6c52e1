-- What a slot of the checkpoint holds.
use Rattle.std.specs.Prelude.{◌≡◌, ◌+◌, ℕ, Bool, cond, not, Option, Some, None, IfSome}
use Rattle.lfs_model.specs.Checkpoint.{CheckpointValue, FitsCheckpoint, is_last, layout_version, rank}
use Rattle.lfs_model.specs.Content.{slot}
use Rattle.lfs_model.specs.Device.{DeviceState}
use Rattle.lfs_places.specs.declared.Places.{Places}
use Rattle.lfs_places.specs.declared.Places.TheVariants.{Old, New}
use Rattle.lfs_salvage.specs.declared.slots.Slot.{Slot}
use Rattle.lfs_salvage.specs.declared.slots.Slot.TheVariants.{Whole, Empty, Other}
use Rattle.lfs_salvage.specs.declared.slots.Slots.{Slots}

-- the number of its checkpoint, 0 where it holds none
abbrev pub number_in : Slot → ℕ
number_in (Whole c) = c.number
number_in Empty = 0
number_in Other = 0

-- 0 where it holds none, and else above the rank of its checkpoint by 1
abbrev pub rank_in : Slot → ℕ
rank_in (Whole c) = rank c + 1
rank_in Empty = 0
rank_in Other = 0

-- its checkpoint
abbrev pub held_in : Slot → Option CheckpointValue
held_in (Whole c) = Some c
held_in Empty = None
held_in Other = None

-- what it holds may be a checkpoint
abbrev pub IsFit : Slot → Type 0
IsFit slot = IfSome (held_in slot) FitsCheckpoint

-- what both hold
pub record AreFit (slots : Slots) : Type 0 where
  pub first : IsFit slots.first
  pub second : IsFit slots.second

-- by these places stands a volume whose version is the last, or isn't
abbrev pub stands : Places → Bool → Bool
stands Old last = not last
stands New last = last

-- the checkpoint, if its version stands by these places
abbrev pub standing : Places → Option CheckpointValue → Option CheckpointValue
standing places None = None
standing places (Some c) = cond (stands places (is_last (layout_version c))) (Some c) None

-- A checkpoint that is found in slot p of a device stands there; and where no call failed, the one that stands there is found.
pub record IsFound (old new : DeviceState) (p : ℕ) (found : Option CheckpointValue) : Type 0 where
  pub there : IfSome found (λ c. new.keeps_model → slot old.content p ≡ Some c)
  pub whole : new.keeps_model → new.failures ≡ old.failures → found ≡ slot old.content p

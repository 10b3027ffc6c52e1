-- What calls of a device make of it as the volume sees it that was found on it.
use Rattle.std.proofs.Common.{ℕ, List}
use Rattle.lfs_model.specs.Device.{Carries, CrashWritesUnit, DeviceState, MayWriteUnit, in_units}
use Rattle.lfs_model.proofs.UnitStates.{units_carry, units_crash}
use Rattle.lfs_model.proofs.UnitWrites.{units_within}
use Rattle.lfs_places.specs.declared.Places.{Places}
use Rattle.lfs_places.specs.Places.{place_of, volume_content}
use Rattle.lfs_places.specs.Placed.{placed}
use Rattle.lfs_places.proofs.Placing.{may_placed}
use Rattle.lfs_places.proofs.PlacedStates.{placed_carry, placed_crash}

module _ (unit : ℕ → ℕ) (places : Places) (old new : DeviceState) (carries : Carries old new) where
  pub volume_carry : Carries (in_units unit (placed places old)) (in_units unit (placed places new))
  volume_carry = units_carry unit (placed_carry places old new carries)

  module _ (sector : ℕ) (bytes : List ℕ) where
    pub volume_crash : CrashWritesUnit (place_of places sector) bytes old new
        → CrashWritesUnit sector bytes (in_units unit (placed places old)) (in_units unit (placed places new))
    volume_crash crash =
        units_crash unit (placed_carry places old new carries) sector bytes (placed_crash places old new sector bytes crash)

    pub volume_may : MayWriteUnit old.unit (place_of places sector) bytes old.content new.content
        → (in_units unit (placed places new)).keeps_model
        → MayWriteUnit unit sector bytes (volume_content places old.content) (volume_content places new.content)
    volume_may may keeps =
        units_within (placed places old).unit unit (volume_carry.kept_before keeps).0 sector bytes (volume_content places old.content)
        (volume_content places new.content) (may_placed places sector bytes old.unit old.content new.content may)

-- What a mount, the making of a volume and an unmounting do to what a volume holds.
use Rattle.std.specs.Prelude.{◌≡◌, ◌≢◌, ℕ, ℤ, pos, Option, Some, None}
use Rattle.lfs_model.specs.Device.{DeviceState}
use Rattle.lfs_fs.specs.Seen.{seen}
use Rattle.lfs_fs.specs.Finding.{IsFoundOn}
use Rattle.lfs_volume.specs.Standing.{in_found}
use Rattle.lfs_fs.specs.declared.fs.Fs.{Fs}
use Rattle.lfs_format.specs.declared.shape.Shape.{Shape}
use Rattle.lfs_places.specs.declared.Places.{Places}
use Rattle.lfs_volume.specs.Finding.{found_places}
use Rattle.lfs_volume.specs.Found.{Found, by_volume}
use Rattle.lfs_store.specs.log.verify.declared.fault.MountFault.{MountFault}
use Rattle.pansuyog_calls.specs.Codes.{already_mounted, code_of_mount_fault, inval, not_mounted, read_only}
use Rattle.pansuyog_calls.specs.Making.{IsNotMounted, Makes, MakesWith, Mounts}
use Rattle.pansuyog_calls.specs.declared.access.Access.TheVariants.{ReadWrite, ReadOnly}
use Rattle.pansuyog_calls.specs.declared.volume.VolumeIn.{VolumeIn}

-- the names that were listed last are there still, the same calls are made, and no recorder is there any more
pub record KeepsListingAndAccess {D : Type 0} (old new : VolumeIn D) : Type 0 where
  pub listing : new.listing ≡ old.listing
  pub access : new.access ≡ old.access
  pub recorder : new.recorder ≡ None

-- What an unmounting leaves: the device that was in the volume.
pub data Unmounts {D : Type 0} (old new : VolumeIn D) (code : ℤ) : Type 0 where
  is_unmounted : (fs : Fs (Found D)) → old.fs ≡ Some fs → code ≡ pos 0 → new.fs ≡ None → new.device ≡ Some (seen fs).log.device.device
      → KeepsListingAndAccess old new → Unmounts old new code
  is_nothing : old.fs ≡ None → code ≡ not_mounted → new ≡ old → Unmounts old new code

-- An empty volume was to be made, and so it was tried, on the device that a volume holds; or a volume is mounted, none is held, or it is
-- only read.
pub data MakesBy {D : Type 0} (Makes : D → D → ℤ → Type 0) (old new : VolumeIn D) (code : ℤ) : Type 0 where
  was_tried : (device after : D) → old.fs ≡ None → old.access ≡ ReadWrite → old.device ≡ Some device → new.fs ≡ None
      → new.device ≡ Some after → Makes device after code → KeepsListingAndAccess old new → MakesBy Makes old new code
  is_only_read : (device : D) → old.fs ≡ None → old.access ≡ ReadOnly → old.device ≡ Some device → code ≡ read_only → new ≡ old
      → MakesBy Makes old new code
  is_mounted : old.fs ≢ None → code ≡ already_mounted → new ≡ old → MakesBy Makes old new code
  is_nothing : old.fs ≡ None → old.device ≡ None → code ≡ inval → new ≡ old → MakesBy Makes old new code

module _ {D : Type 0} (state : D → DeviceState) where
  -- A device as its volume sees it isn't mounted, for this fault. Its places are those where the volume stands, if it keeps its model.
  pub record IsNotMountedThere (device after : D) (fault : MountFault) : Type 0 where
    pub places : Option Places
    pub found : (in_found state places device after).keeps_model → found_places (state device).size (state device).content ≡ places
    pub refused : IsNotMounted (in_found state places device) device after fault

  -- the device's volume was found and is mounted, or the device is held as before
  abbrev pub MountsDevice : D → Option (Fs (Found D)) → Option D → ℤ → Type 0
  MountsDevice device (Some fs) None code =
      (code ≡ pos 0) × (put : Found D) × IsFoundOn state device put × Mounts (by_volume state) put fs
  MountsDevice device None (Some after) code =
      (fault : MountFault) × (code ≡ code_of_mount_fault fault) × IsNotMountedThere device after fault
  MountsDevice device fs held code = ⊥

  -- A mount of the device that a volume holds: it was done or refused there, or a volume is mounted, or none is held.
  pub data MountsFrom (old new : VolumeIn D) (code : ℤ) : Type 0 where
    is_tried : (device : D) → old.fs ≡ None → old.device ≡ Some device → MountsDevice device new.fs new.device code
        → KeepsListingAndAccess old new → MountsFrom old new code
    is_mounted : old.fs ≢ None → code ≡ already_mounted → new ≡ old → MountsFrom old new code
    is_nothing : old.fs ≡ None → old.device ≡ None → code ≡ inval → new ≡ old → MountsFrom old new code

  abbrev pub MakesFrom : ℕ → ℕ → VolumeIn D → VolumeIn D → ℤ → Type 0
  MakesFrom segments version old new code = MakesBy (Makes state segments version) old new code

  abbrev pub MakesFromWith : Shape → VolumeIn D → VolumeIn D → ℤ → Type 0
  MakesFromWith shape old new code = MakesBy (MakesWith state shape) old new code

-- A use of a volume that isn't mounted.
use Rattle.std.specs.Prelude.{◌≡◌}
use Rattle.lfs_model.specs.Device.{AllLeft, DeviceState, LeavesOnly}
use Rattle.lfs_fs.specs.Mounting.{IsMountFault, IsRefused}
use Rattle.lfs_fs.specs.log.verify.declared.fault.MountFault.{MountFault}
use Rattle.lfs_fs.specs.log.verify.declared.fault.MountFault.TheVariants.{NoMemory}

-- The volume wasn't mounted, for this fault: no byte was read or written, and a stop at any moment
-- leaves what it might have left before.
pub record IsUnused {R W : Type 0} (r r' : R) (w w' : W) (d d' : DeviceState) (fault : MountFault) : Type 0 where
  pub cause : (fault ≡ NoMemory → ⊥) → IsMountFault d d' fault
  pub reason : IsRefused d d' fault
  pub left : AllLeft d' d.may_leave
  pub any_moment : LeavesOnly d d' d.may_leave
  pub unread : r' ≡ r
  pub unwritten : w' ≡ w

-- Which calls a device that bears them leaves no room to refuse.
-- What a device bears is an own choice: POSIX.1-2017 has EIO for a call of the device that failed, and doesn't say when none does.
use Rattle.std.specs.Prelude.{◌≡◌, ◌⊎◌, ◌+◌, true, false, length}
use Rattle.lfs_model.specs.Call.{Answer, Call, Done, Refuse, commits}
use Rattle.lfs_model.specs.Device.{DeviceState}
use Rattle.lfs_model.specs.Refusal.{BadHandle, Device, Halted}
use Rattle.lfs_model.specs.Run.{Point}
use Rattle.lfs_model.specs.Tree.{State}
use Rattle.lfs_model.specs.TreeOf.{Stands}
use Rattle.lfs_store.specs.log.verify.declared.fault.MountFault.{MountFault}
use Rattle.lfs_store.specs.log.verify.declared.fault.MountFault.TheVariants.{NoMemory}
use Rattle.lfs_fs.specs.Volume.{IsAt, Mounted, Serves, most_orders, segments_of}

module _ {D : Type 0} (state : D → DeviceState) where
  -- the device bears more orders than a call may tell it
  abbrev pub BearsCall : Mounted D → Call → Type 0
  BearsCall v call = (state v.log.device).bears (length (state v.log.device).told + most_orders call (segments_of v) + 1)

  -- A call of a volume that runs, over a device that keeps the model and bears it.
  pub record IsBorne (old new : Mounted D) (call : Call) (answer : Answer) : Type 0 where
    pub serves : Serves state old new call answer
    pub keeps : (state new.log.device).keeps_model
    pub running : old.log.halted ≡ false
    pub point : Point
    pub at : IsAt state old point
    pub bears : BearsCall old call

  -- It is refused neither for the device nor as the volume is halted.
  abbrev pub CallsAreAvailable : Type 0
  CallsAreAvailable = (old new : Mounted D) (call : Call) (answer : Answer) → IsBorne old new call answer
      → (answer ≡ Refuse Device → ⊥) × (answer ≡ Refuse Halted → ⊥)

  -- So each sync is done, and each fsync of an open file.
  abbrev pub SyncsAreDone : Type 0
  SyncsAreDone = (old new : Mounted D) (call : Call) (answer : Answer) → commits call ≡ true → IsBorne old new call answer
      → (answer ≡ Done) ⊎ (answer ≡ Refuse BadHandle)

-- A volume whose device keeps the model is refused for memory alone, where the device bears two orders more: a mount tells it one at most.
abbrev pub MountIsAvailable : DeviceState → DeviceState → MountFault → Type 0
MountIsAvailable old new fault = new.keeps_model → (s : State) → Stands old.content s → old.bears (length old.told + 2) → fault ≡ NoMemory

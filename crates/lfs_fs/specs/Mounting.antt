-- What a mount gives, and why it doesn't.
use Rattle.std.specs.Prelude.{◌≡◌, false}
use Rattle.lfs_model.specs.Device.{DeviceState}
use Rattle.lfs_model.specs.Run.{Point}
use Rattle.lfs_model.specs.Tree.{State}
use Rattle.lfs_model.specs.TreeOf.{Stands}
use Rattle.lfs_store.specs.log.verify.declared.fault.MountFault.{MountFault}
use Rattle.lfs_tree.specs.Checking.{IsRefusedVolume, IsTreeFault}
use Rattle.lfs_fs.specs.declared.fs.Fs.{Fs}
use Rattle.lfs_fs.specs.Seen.{seen}
use Rattle.lfs_fs.specs.Volume.{IsAt}

module _ {D : Type 0} (state : D → DeviceState) where
  -- Where the device stands for a state, whatever its tree, the volume is in that state.
  pub record MountsAt (v : Fs D) (s : State) : Type 0 where
    pub running : (seen v).log.halted ≡ false
    pub point : Point
    pub same : point.state ≡ s
    pub at : IsAt state (seen v) point

  abbrev pub MountsFs : D → Fs D → Type 0
  MountsFs d v = (s : State) → (state (seen v).log.device).keeps_model → Stands (state d).content s → MountsAt v s

  -- it stands for a state, and the volume is in that one
  abbrev pub FindsState : D → Fs D → Type 0
  FindsState d v = (state (seen v).log.device).keeps_model → (s : State) × Stands (state d).content s × MountsAt v s

-- A fault that isn't of memory. Where the content stands for a state it is Device, and a call of the device failed.
abbrev pub IsMountFault : DeviceState → DeviceState → MountFault → Type 0
IsMountFault = IsTreeFault

-- why a device is refused, by fault: a call of it failed, or this is so of the content that was there
abbrev pub IsRefused : DeviceState → DeviceState → MountFault → Type 0
IsRefused = IsRefusedVolume

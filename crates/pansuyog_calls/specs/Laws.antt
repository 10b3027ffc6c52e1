-- What a volume that is only read tells its device.
use Rattle.std.specs.Prelude.{◌≡◌, ℤ, false, Option, Some, None}
use Rattle.lfs_model.specs.Call.{Answer, Call, may_write}
use Rattle.lfs_model.specs.Device.{DeviceState}
use Rattle.lfs_fs.specs.Seen.{seen}
use Rattle.lfs_fs.specs.Volume.{Serves}
use Rattle.lfs_fs.specs.declared.fs.Fs.{Fs}
use Rattle.pansuyog_calls.specs.Serving.{ServesChange}
use Rattle.pansuyog_calls.specs.declared.access.Access.TheVariants.{ReadOnly}

module _ {D : Type 0} (state : D → DeviceState) where
  -- no write and no sync was told to the device of a volume
  abbrev pub TellsNothing : Option (Fs D) → Option (Fs D) → Type 0
  TellsNothing (Some old) (Some new) = (state (seen new).log.device).told ≡ (state (seen old).log.device).told
  TellsNothing (Some old) None = ⊥
  TellsNothing None new = new ≡ None

  -- so it is in each call that may not write
  abbrev pub LooksTellNothing : Type 0
  LooksTellNothing = (old new : Fs D) (call : Call) (answer : Answer) → may_write call ≡ false
      → Serves state (seen old) (seen new) call answer → TellsNothing (Some old) (Some new)

  -- and in each other of a volume that is only read
  abbrev pub RefusalsTellNothing : Type 0
  RefusalsTellNothing = (old new : Option (Fs D)) (call : Call) (code : ℤ) → ServesChange state ReadOnly old new call code
      → TellsNothing old new

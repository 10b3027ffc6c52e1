-- A file device as contracts see it.
use Rattle.std.specs.Prelude.{List}
use Rattle.lfs_model.specs.Device.{DeviceState}
use Rattle.lfs_device.specs.Event.{Event, calls_made, kept}
use Rattle.lfs_device.specs.File.{file_state}
use Rattle.lfs_device.specs.History.{calls_of}
use Rattle.lfs_device.specs.HostCall.{HostCall}
use Rattle.lfs_device.specs.Runs.{Run}
use Rattle.lfs_device.specs.SectorFile.{events_in}
use Rattle.lfs_device.specs.declared.file.FileDeviceIn.{FileDeviceIn}
use Rattle.lfs_device.specs.declared.world.World.{Ghosts}

module _ {W : Type 0} {world : Ghosts W} where
  -- what was done for it, the newest first
  abbrev pub events_of : FileDeviceIn W world → List Event
  events_of d = events_in d.file

  -- the calls that were made of the system for it
  abbrev pub host_calls_of : FileDeviceIn W world → List HostCall
  host_calls_of d = calls_made (events_of d)

  -- the run that it keeps
  abbrev pub run_of : FileDeviceIn W world → Run
  run_of d = kept (events_of d)

  -- with the fate that its world has for it
  abbrev pub state_of_file : FileDeviceIn W world → DeviceState
  state_of_file d = file_state d.sectors (world.fate d.opened.value d.sectors) (calls_of (events_of d))

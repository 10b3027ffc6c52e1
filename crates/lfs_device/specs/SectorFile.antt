-- A file by sectors.
use Rattle.std.specs.Prelude.{List}
use Rattle.lfs_device.specs.Event.{Event}
use Rattle.lfs_device.specs.HostFile.{events}
use Rattle.lfs_device.specs.declared.sector_file.SectorFile.{SectorFile}

-- what was done for it, the newest first
abbrev pub events_in : SectorFile → List Event
events_in file = events file.host

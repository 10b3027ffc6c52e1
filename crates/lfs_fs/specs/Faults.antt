-- The errors of a call by the faults of the layers below. A volume has room that can be made; where a
-- store finds none, the device contradicts what it held.
use Rattle.lfs_files.specs.declared.fault.LogFault.{LogFault}
use Rattle.lfs_files.specs.declared.fault.LogFault.TheVariants as log
use Rattle.lfs_files.specs.declared.fault.StoreFault.{StoreFault}
use Rattle.lfs_files.specs.declared.fault.StoreFault.TheVariants as store
use Rattle.lfs_path.specs.declared.walk_fault.WalkFault.{WalkFault}
use Rattle.lfs_path.specs.declared.walk_fault.WalkFault.TheVariants as walk
use Rattle.lfs_entries.specs.declared.fault.EntryFault.{EntryFault}
use Rattle.lfs_entries.specs.declared.fault.EntryFault.TheVariants as entry
use Rattle.lfs_fs.specs.declared.error.FsError.{FsError}
use Rattle.lfs_fs.specs.declared.error.FsError.TheVariants as error

abbrev pub error_of_log : LogFault → FsError
error_of_log log.Device = error.Device
error_of_log log.Halted = error.Halted
error_of_log log.Full = error.Device

abbrev pub error_of_store : StoreFault → FsError
error_of_store store.NoMemory = error.NoMemory
error_of_store (store.Log fault) = error_of_log fault

abbrev pub error_of_walk : WalkFault → FsError
error_of_walk walk.NoEntry = error.NoEntry
error_of_walk walk.NotDir = error.NotDir
error_of_walk walk.NameTooLong = error.NameTooLong
error_of_walk walk.Inval = error.Inval
error_of_walk walk.Loop = error.Loop
error_of_walk walk.NoMemory = error.NoMemory
error_of_walk (walk.Log fault) = error_of_log fault

abbrev pub error_of_entry : EntryFault → FsError
error_of_entry entry.NoEntry = error.NoEntry
error_of_entry entry.NotDir = error.NotDir
error_of_entry entry.IsDir = error.IsDir
error_of_entry entry.Exist = error.Exist
error_of_entry entry.NotEmpty = error.NotEmpty
error_of_entry entry.Inval = error.Inval
error_of_entry entry.NameTooLong = error.NameTooLong
error_of_entry entry.Perm = error.Perm
error_of_entry entry.TooManyLinks = error.TooManyLinks
error_of_entry entry.DirFull = error.DirFull
error_of_entry entry.NoMemory = error.NoMemory
error_of_entry (entry.Log fault) = error_of_log fault

-- The refusal of the model that an error is.
use Rattle.lfs_fs.specs.declared.error.FsError.{FsError}
use Rattle.lfs_fs.specs.declared.error.FsError.TheVariants as error
use Rattle.lfs_model.specs.Refusal.{Refusal, NoEntry, NotDir, IsDir, Exist, NotEmpty, Inval, NameTooLong, Loop, Perm, Busy, BadHandle}
use Rattle.lfs_model.specs.Refusal.{TooManyOpen, TooManyLinks, FileTooBig, NoSpace, NoNumber, DirFull, NoMemory, Device, Halted, Stuck}
use Rattle.lfs_model.specs.Refusal.{Worn}

abbrev pub refusal_of : FsError → Refusal
refusal_of error.NoEntry = NoEntry
refusal_of error.NotDir = NotDir
refusal_of error.IsDir = IsDir
refusal_of error.Exist = Exist
refusal_of error.NotEmpty = NotEmpty
refusal_of error.Inval = Inval
refusal_of error.NameTooLong = NameTooLong
refusal_of error.Loop = Loop
refusal_of error.Perm = Perm
refusal_of error.Busy = Busy
refusal_of error.BadHandle = BadHandle
refusal_of error.TooManyOpen = TooManyOpen
refusal_of error.TooManyLinks = TooManyLinks
refusal_of error.FileTooBig = FileTooBig
refusal_of error.NoSpace = NoSpace
refusal_of error.NoNumber = NoNumber
refusal_of error.DirFull = DirFull
refusal_of error.NoMemory = NoMemory
refusal_of error.Device = Device
refusal_of error.Halted = Halted
refusal_of error.Stuck = Stuck
refusal_of error.Worn = Worn

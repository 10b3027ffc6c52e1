-- How much of the memory for what isn't saved yet a call may take.
use Rattle.std.specs.Prelude.{◌+◌, ◌-◌, ◌/◌, ℕ, min, length}
use Rattle.std.specs.Int.{div_ceil}
use Rattle.lfs_model.specs.declared.limits.TheConstants.{SECTOR_LEN}
use Rattle.lfs_model.specs.Call.{Call, Open, Create, Close, Pread, Pwrite, Truncate, Mkdir, LinkTo, Symlink, Readlink, Unlink, Rmdir}
use Rattle.lfs_model.specs.Call.{Rename, StatOf, LstatOf, Readdir, Fsync, Sync, Clean, Space, Version, Upgrade, Widen, ListTree}
use Rattle.lfs_files.specs.Files.{asked_by_directory}
use Rattle.lfs_store.specs.Growing.{asked_by_changes}

-- how many blocks of a file so many bytes lie in from a place on
abbrev pub blocks_of : ℕ → ℕ → ℕ
blocks_of at len = div_ceil (at + len) SECTOR_LEN - at / SECTOR_LEN

-- how many blocks of memory a call asks for at most, by how many headers and blocks of files it changes; a directory that is widened, and
-- bytes in many blocks, ask for no more than a full directory of form 1
abbrev pub most_asked : Call → ℕ
most_asked (Open p) = 0
most_asked (Create p) = asked_by_changes 4 4
most_asked (Close h) = 0
most_asked (Pread h off n) = 0
most_asked (Pwrite h off w) = min (asked_by_changes 1 (blocks_of off (length w))) asked_by_directory
most_asked (Truncate h n) = asked_by_changes 1 1
most_asked (Mkdir p) = asked_by_changes 4 4
most_asked (LinkTo p q) = asked_by_changes 2 2
most_asked (Symlink text p) = asked_by_changes 4 4
most_asked (Readlink p) = 0
most_asked (Unlink p) = asked_by_changes 4 2
most_asked (Rmdir p) = asked_by_changes 4 2
most_asked (Rename p q) = asked_by_changes 6 4
most_asked (StatOf p) = 0
most_asked (LstatOf p) = 0
most_asked (Readdir p) = 0
most_asked (Fsync h) = 0
most_asked Sync = 0
most_asked Clean = 0
most_asked Space = 0
most_asked Version = 0
most_asked Upgrade = asked_by_changes 0 0
most_asked (Widen p) = asked_by_directory
most_asked ListTree = 0

-- The first word of a line.
use Rattle.std.specs.Prelude.{ℕ, List, [], ◌∷◌, Option, Some, None, codes, if◌then◌else◌}
use Rattle.std.specs.Str.{bytes_eq}
use Rattle.lfs_lines.specs.declared.command.Command.{Command}
use Rattle.lfs_lines.specs.declared.command.Command.TheVariants.{Create, Open, Close, Pread, Pwrite, Fill, Truncate, Mkdir, Link, Symlink}
use Rattle.lfs_lines.specs.declared.command.Command.TheVariants.{Readlink, Unlink, Rmdir, Rename, Stat, Lstat, Readdir, Fsync, Sync, Clean}
use Rattle.lfs_lines.specs.declared.command.Command.TheVariants.{Space, Version, Upgrade, Widen, Tree}

abbrev pub command_word : Command → List ℕ
command_word Create = codes "create"
command_word Open = codes "open"
command_word Close = codes "close"
command_word Pread = codes "pread"
command_word Pwrite = codes "pwrite"
command_word Fill = codes "fill"
command_word Truncate = codes "truncate"
command_word Mkdir = codes "mkdir"
command_word Link = codes "link"
command_word Symlink = codes "symlink"
command_word Readlink = codes "readlink"
command_word Unlink = codes "unlink"
command_word Rmdir = codes "rmdir"
command_word Rename = codes "rename"
command_word Stat = codes "stat"
command_word Lstat = codes "lstat"
command_word Readdir = codes "readdir"
command_word Fsync = codes "fsync"
command_word Sync = codes "sync"
command_word Clean = codes "clean"
command_word Space = codes "space"
command_word Version = codes "version"
command_word Upgrade = codes "upgrade"
command_word Widen = codes "widen"
command_word Tree = codes "tree"

-- the command of the first of these rows that has this word
abbrev pub command_in : List (Command × List ℕ) → List ℕ → Option Command
command_in [] word = None
command_in (row ∷ rows) word = if bytes_eq row.1 word then Some row.0 else command_in rows word

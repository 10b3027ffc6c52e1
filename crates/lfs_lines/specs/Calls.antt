-- The line that a call is made for.
use Rattle.std.specs.Prelude.{◌≡◌, Result, Ok, Err}
use Rattle.lfs_model.specs.Call as call
use Rattle.lfs_model.specs.Script.{Line, Plain, Fill}
use Rattle.lfs_lines.specs.declared.call.Call.{Call}
use Rattle.lfs_lines.specs.declared.call.Call.TheVariants as made
use Rattle.lfs_words.specs.declared.word.WordFault.{WordFault}
use Rattle.lfs_words.specs.declared.word.WordFault.TheVariants.{Memory, Spelling}

abbrev pub line_for : Call → Line
line_for (made.Create path) = Plain (call.Create path.items)
line_for (made.Open path) = Plain (call.Open path.items)
line_for (made.Close handle) = Plain (call.Close handle)
line_for (made.Pread handle offset len) = Plain (call.Pread handle offset len)
line_for (made.Pwrite handle offset bytes) = Plain (call.Pwrite handle offset bytes.items)
line_for (made.Fill handle offset len byte) = Fill handle offset len byte
line_for (made.Truncate handle len) = Plain (call.Truncate handle len)
line_for (made.Mkdir path) = Plain (call.Mkdir path.items)
line_for (made.Link from to) = Plain (call.LinkTo from.items to.items)
line_for (made.Symlink text path) = Plain (call.Symlink text.items path.items)
line_for (made.Readlink path) = Plain (call.Readlink path.items)
line_for (made.Unlink path) = Plain (call.Unlink path.items)
line_for (made.Rmdir path) = Plain (call.Rmdir path.items)
line_for (made.Rename from to) = Plain (call.Rename from.items to.items)
line_for (made.Stat path) = Plain (call.StatOf path.items)
line_for (made.Lstat path) = Plain (call.LstatOf path.items)
line_for (made.Readdir path) = Plain (call.Readdir path.items)
line_for (made.Fsync handle) = Plain (call.Fsync handle)
line_for made.Sync = Plain call.Sync
line_for made.Clean = Plain call.Clean
line_for made.Space = Plain call.Space
line_for made.Version = Plain call.Version
line_for made.Upgrade = Plain call.Upgrade
line_for (made.Widen path) = Plain (call.Widen path.items)
line_for made.Tree = Plain call.ListTree

-- Two words that are read, or why they aren't: a wrong spelling of either, else memory that was refused for one.
abbrev pub IsBoth : {A : Type 0} → Result A WordFault → Result A WordFault → Result (A × A) WordFault → Type 0
IsBoth (Ok a) (Ok b) r = r ≡ Ok (a, b)
IsBoth (Ok a) (Err fault) r = r ≡ Err fault
IsBoth (Err Spelling) second r = r ≡ Err Spelling
IsBoth (Err Memory) (Err Spelling) r = r ≡ Err Spelling
IsBoth (Err Memory) (Err Memory) r = r ≡ Err Memory
IsBoth (Err Memory) (Ok b) r = r ≡ Err Memory

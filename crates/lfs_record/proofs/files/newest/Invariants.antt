use Rattle.std.proofs.Common.{◌≡◌, ◌-◌, None, drop, length, map}
use Rattle.lfs_fs.specs.Answers.{entry_of}
use Rattle.lfs_record.specs.Files.{newest}
use Rattle.lfs_record.proofs.files.newest.Given as goal

-- none of the entries so far has such a name
abbrev pub invariant-loop-behind : goal.invariant-loop-behind
invariant-loop-behind l = newest (map entry_of (drop (length l.entries - l.behind) l.entries)) ≡ None

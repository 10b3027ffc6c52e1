use Rattle.std.proofs.Common.{◌≡◌, ◌+◌, drop, map}
use Rattle.lfs_fs.specs.Answers.{entry_of}
use Rattle.lfs_record.specs.Files.{count_files}
use Rattle.lfs_record.proofs.files.are_more.Given as goal

-- what is left of the count, by the entries so far
abbrev pub invariant-loop-place : goal.invariant-loop-place
invariant-loop-place l = l.left + count_files (map entry_of l.entries) ≡ l.kept + count_files (map entry_of (drop l.place l.entries))

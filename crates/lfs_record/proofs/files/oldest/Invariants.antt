use Rattle.std.proofs.Common.{◌≡◌, drop, map}
use Rattle.lfs_fs.specs.Answers.{entry_of}
use Rattle.lfs_record.specs.Files.{oldest}
use Rattle.lfs_record.proofs.files.oldest.Given as goal

-- none of the entries so far is one
abbrev pub invariant-loop-place : goal.invariant-loop-place
invariant-loop-place l = oldest l.number (map entry_of (drop l.place l.entries)) ≡ oldest l.number (map entry_of l.entries)

use Rattle.std.proofs.Common.{rules, ◌≡◌, replicate}
use Rattle.lfs_memory.proofs.CountedFiles.{zeros_are_nothing}
use Rattle.lfs_memory.proofs.counting.SegmentCounts.new.Goals as goal

pub returns : goal.returns
returns c = let is : c.in_ok-counts.counts.items ≡ replicate 1024 0 = search rules in rw is (zeros_are_nothing 1024)

use Rattle.std.proofs.Common.{◌≡◌, ◌≤◌}
use Rattle.lfs_verify.specs.Labels.{marked_count}
use Rattle.lfs_verify.proofs.counts.count_marked.Given as goal

abbrev pub invariant-loop-place : goal.invariant-loop-place
invariant-loop-place l = record {
  few : l.count ≤ l.place;
  so_far : l.count ≡ marked_count l.marks l.segment l.place;
}

use Rattle.std.proofs.Common.{◌≡◌, ◌≤◌}
use Rattle.lfs_verify.specs.Tables.{clean_count}
use Rattle.lfs_verify.proofs.clean.count_clean.Given as goal

abbrev pub invariant-loop-segment : goal.invariant-loop-segment
invariant-loop-segment l = record {
  few : l.count ≤ l.segment;
  so_far : l.count ≡ clean_count l.used l.segment;
}

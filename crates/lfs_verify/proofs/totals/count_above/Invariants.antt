use Rattle.std.proofs.Common.{◌≡◌, ◌≤◌}
use Rattle.lfs_verify.specs.Totals.{above_count}
use Rattle.lfs_verify.proofs.totals.count_above.Given as goal

abbrev pub invariant-loop-sector : goal.invariant-loop-sector
invariant-loop-sector l = record {
  few : l.count ≤ l.sector;
  so_far : l.count ≡ above_count l.marks l.mark l.sector;
}

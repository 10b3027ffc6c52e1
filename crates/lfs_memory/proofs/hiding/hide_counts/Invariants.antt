use Rattle.lfs_memory.specs.Removing.{counts_below}
use Rattle.lfs_memory.specs.Hiding.{HidesCounts}
use Rattle.lfs_memory.proofs.hiding.hide_counts.Given as goal

abbrev pub invariant-loop-segment : goal.invariant-loop-segment
invariant-loop-segment l = record { hides : HidesCounts l.initial.usage l.usage (counts_below l.counts l.segment) }

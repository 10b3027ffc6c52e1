use Rattle.lfs_memory.specs.Removing.{TakesCounts, counts_below}
use Rattle.lfs_memory.proofs.removing.take_counts.Given as goal

abbrev pub invariant-loop-segment : goal.invariant-loop-segment
invariant-loop-segment l = record { takes : TakesCounts l.initial.usage l.usage l.lives (counts_below l.counts l.segment) }

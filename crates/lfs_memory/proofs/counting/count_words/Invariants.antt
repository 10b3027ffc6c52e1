use Rattle.lfs_memory.specs.Counting.{CountsWords}
use Rattle.lfs_memory.proofs.counting.count_words.Given as goal

abbrev pub invariant-loop-i : goal.invariant-loop-i
invariant-loop-i l = record { counts : CountsWords l.block l.start l.i l.initial.counts l.counts }

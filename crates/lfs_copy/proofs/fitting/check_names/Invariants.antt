use Rattle.lfs_copy.proofs.fitting.check_names.Given as goal

abbrev pub invariant-loop-row : goal.invariant-loop-row
invariant-loop-row l = Unit {0}

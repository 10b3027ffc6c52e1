use Rattle.lfs_verify.specs.Loading.{IsTakenIn}
use Rattle.lfs_verify.proofs.tables.take_entries.Given as goal

abbrev pub invariant-loop-entry : goal.invariant-loop-entry
invariant-loop-entry l = record { taken : IsTakenIn l.initial.usage l.usage l.block l.index l.entry }

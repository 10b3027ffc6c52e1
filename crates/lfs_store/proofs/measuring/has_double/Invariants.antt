use Rattle.lfs_model.specs.Objects.{has_leaf}
use Rattle.lfs_store.proofs.Measured.{CountedUpTo}
use Rattle.lfs_store.proofs.measuring.has_double.Given as goal

abbrev pub invariant-loop-leaf : goal.invariant-loop-leaf
invariant-loop-leaf g l = CountedUpTo g.D.SectorDevice.state (λ m. has_leaf m l.number.value) l.initial.log l.log l.draft.changes 1 l.leaf 0

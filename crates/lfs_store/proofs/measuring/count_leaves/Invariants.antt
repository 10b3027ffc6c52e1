use Rattle.lfs_model.specs.Objects.{has_leaf}
use Rattle.lfs_store.proofs.Measured.{CountedUpTo}
use Rattle.lfs_store.proofs.measuring.count_leaves.Given as goal

abbrev pub invariant-loop-leaf : goal.invariant-loop-leaf
invariant-loop-leaf g l =
    CountedUpTo g.D.SectorDevice.state (λ m. has_leaf m l.number.value) l.initial.log l.log l.draft.changes l.from l.leaf l.count

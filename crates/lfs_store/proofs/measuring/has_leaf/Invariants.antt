use Rattle.lfs_store.proofs.Measured.{SearchedUpTo}
use Rattle.lfs_store.proofs.measuring.has_leaf.Given as goal

abbrev pub invariant-loop-index : goal.invariant-loop-index
invariant-loop-index g l = SearchedUpTo g.D.SectorDevice.state l.number.value l.initial.log l.log l.draft.changes l.first l.index

use Rattle.lfs_model.specs.Objects.{is_stored}
use Rattle.lfs_store.proofs.Measured.{CountedUpTo}
use Rattle.lfs_store.proofs.measuring.count_stored.Given as goal

abbrev pub invariant-loop-index : goal.invariant-loop-index
invariant-loop-index g l =
    CountedUpTo g.D.SectorDevice.state (λ m. is_stored m l.number.value) l.initial.log l.log l.draft.changes l.from l.index l.count

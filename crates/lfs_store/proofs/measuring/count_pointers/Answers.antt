use Rattle.lfs_store.proofs.Endings.{exit_is}
use Rattle.lfs_store.proofs.Keepings.{looked_done, looked_fails}
use Rattle.lfs_cleaner.proofs.of_log.LogReads.{reads_more, reads_none}
use Rattle.lfs_store.proofs.Measures.{counts_below, counts_pointers}
use Rattle.lfs_store.proofs.measuring.count_pointers.Goals as goal

pub returns-in_err-leaves-clause-reads : goal.returns-in_err-leaves-clause-reads
returns-in_err-leaves-clause-reads g c =
    rw (exit_is c.from_residual.ensures) (looked_fails _ _ (g.met.D.SectorDevice.lawful _) (reads_none _ _) c.in_err-leaves.ensures.reads)

pub returns-then-leaves-gt0-clause-reads : goal.returns-then-leaves-gt0-clause-reads
returns-then-leaves-gt0-clause-reads g c =
    looked_done c.count_leaves.ensures.reads.reads

pub returns-then-leaves-gt0-clause-answer : goal.returns-then-leaves-gt0-clause-answer
returns-then-leaves-gt0-clause-answer g c =
    counts_below _ c.args.draft.now.changes c.args.number.value _ c.count_leaves.new.log _ _ _ _ _ _
    c.leaf_range-first.ensures.range c.requires.order c.requires.low c.in_ok-leaves.ensures.answer
    c.if-first-gt0.true c.leaf_range-first.ensures.order c.leaf_range-first.ensures.low c.if-leaves-gt0.true

pub returns-in_err-found-clause-reads : goal.returns-in_err-found-clause-reads
returns-in_err-found-clause-reads g c =
    rw (exit_is c.from_residual-in_err-found.ensures) (looked_fails _ _
    (g.met.D.SectorDevice.lawful _) c.count_leaves.ensures.reads.reads c.in_err-found.ensures.reads)

pub returns-clause-reads : goal.returns-clause-reads
returns-clause-reads g c =
    looked_done (reads_more _ (g.met.D.SectorDevice.lawful _) c.count_leaves.ensures.reads.reads c.has_double.ensures.reads.reads)

pub returns-clause-answer : goal.returns-clause-answer
returns-clause-answer g c =
    rw c.from.ensures
    (counts_pointers _ c.args.draft.now.changes c.args.number.value _ _ _ _ _ _ _ _
    c.leaf_range-first.ensures.range c.requires.order c.requires.low c.in_ok-leaves.ensures.answer
    _ c.count_leaves.ensures.reads.reads c.has_double.ensures.reads.reads c.in_ok-found.ensures.answer)

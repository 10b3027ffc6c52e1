use Rattle.lfs_store.proofs.Shrunken.{clears_tail}
use Rattle.lfs_store.proofs.Keepings.{uncounted_reads}
use Rattle.lfs_store.proofs.store.Store.clear_tail.Goals as goal

pub returns-clause-done : goal.returns-clause-done
returns-clause-done g c =
    clears_tail _ c.block.array_long c.cut_tail.array_long c.in-Ok.ensures.zeros c.in-Ok.ensures.answer c.cut_tail.ensures
    (rw (← c.block.ensures.reads.draft) c.in-Ok-put_block.ensures.done)

pub returns-in-Err-clause-redrafts : goal.returns-in-Err-clause-redrafts
returns-in-Err-clause-redrafts g c =
    uncounted_reads c.block.ensures.reads

pub returns-clause-redrafts : goal.returns-clause-redrafts
returns-clause-redrafts g c =
    record { reads = c.block.ensures.reads.log; drafted = c.block.ensures.reads.drafted }

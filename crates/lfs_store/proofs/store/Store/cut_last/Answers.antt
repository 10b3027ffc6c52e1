use Rattle.std.proofs.Common.{rules}
use Rattle.lfs_store.proofs.Cuttings.{cuts_none, cuts_inside}
use Rattle.lfs_store.proofs.Keepings.{uncounted_reads}
use Rattle.lfs_store.proofs.store.Store.cut_last.Goals as goal

pub returns-then-not-stored-clause-done : goal.returns-then-not-stored-clause-done
returns-then-not-stored-clause-done g c =
    rw c.block.ensures.reads.draft (cuts_none _ _ (search rules) c.requires.inside c.requires.lost c.in-Ok.ensures.answer)

pub returns-clause-done : goal.returns-clause-done
returns-clause-done g c =
    cuts_inside c.requires.inside c.requires.lost c.block.array_long c.cut_tail.array_long
    c.in-Ok.ensures.zeros c.in-Ok.ensures.answer c.cut_tail.ensures (rw (← c.block.ensures.reads.draft) c.in-Ok-put_block.ensures.done)

pub returns-in-Err-clause-redrafts : goal.returns-in-Err-clause-redrafts
returns-in-Err-clause-redrafts g c =
    uncounted_reads c.block.ensures.reads

pub returns-then-not-stored-clause-redrafts : goal.returns-then-not-stored-clause-redrafts
returns-then-not-stored-clause-redrafts g c =
    uncounted_reads c.block.ensures.reads

pub returns-clause-redrafts : goal.returns-clause-redrafts
returns-clause-redrafts g c =
    record { reads = c.block.ensures.reads.log; drafted = c.block.ensures.reads.drafted }

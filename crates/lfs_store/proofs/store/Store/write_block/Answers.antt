use Rattle.lfs_store.proofs.Writings.{block_written}
use Rattle.std.proofs.Common.{refl}
use Rattle.lfs_store.proofs.store.Store.write_block.Goals as goal

pub returns-clause-done : goal.returns-clause-done
returns-clause-done g c =
    block_written c.overlay.array_long c.in-Ok.ensures.done c.overlay.ensures c.in-Ok-put_block.ensures.done

pub returns-in-Err-clause-redrafts : goal.returns-in-Err-clause-redrafts
returns-in-Err-clause-redrafts g c =
    record { reads = c.block_beneath.ensures.reads.reads; drafted = refl }

pub returns-clause-redrafts : goal.returns-clause-redrafts
returns-clause-redrafts g c =
    record { reads = c.block_beneath.ensures.reads.reads; drafted = refl }

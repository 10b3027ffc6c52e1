use Rattle.std.proofs.Common.{inr}
use Rattle.lfs_store.proofs.Endings.{exit_is}
use Rattle.lfs_store.proofs.Keepings.{looked_done, looked_fails}
use Rattle.lfs_cleaner.proofs.of_log.LogReads.{reads_none}
use Rattle.lfs_store.proofs.Writings.{read_beneath}
use Rattle.lfs_store.proofs.writing.block_beneath.Goals as goal

pub returns-then-covers-clause-reads : goal.returns-then-covers-clause-reads
returns-then-covers-clause-reads g c =
    looked_done (reads_none _ _)

pub returns-then-covers-clause-done : goal.returns-then-covers-clause-done
returns-then-covers-clause-done g c k m0 m keeps is = inr (c.covers.ensures c.if-covers.true)

pub returns-in_err-read_block-clause-reads : goal.returns-in_err-read_block-clause-reads
returns-in_err-read_block-clause-reads g c =
    rw (exit_is c.from_residual.ensures)
    (looked_fails _ _ (g.met.D.SectorDevice.lawful _) (reads_none _ _) c.in_err-read_block.ensures.reads)

pub returns-clause-reads : goal.returns-clause-reads
returns-clause-reads g c =
    looked_done c.read_block.ensures.reads.reads

pub returns-clause-done : goal.returns-clause-done
returns-clause-done g c =
    read_beneath _ c.read_block.new.log c.args.draft.now.changes _ _ c.read_block.array_long c.in_ok-read_block.ensures.zeros
    c.in_ok-read_block.ensures.answer

use Rattle.lfs_store.proofs.Keepings.{looked_done}
use Rattle.lfs_cleaner.proofs.of_log.LogReads.{reads_none}
use Rattle.lfs_store.proofs.Measured.{log_stored}
use Rattle.lfs_store.proofs.measuring.is_stored.Goals as goal

pub returns-in-Some-clause-reads : goal.returns-in-Some-clause-reads
returns-in-Some-clause-reads g c =
    looked_done (reads_none _ _)

pub returns-in-None-clause-reads : goal.returns-in-None-clause-reads
returns-in-None-clause-reads g c =
    c.has_block.ensures.keeps

pub returns-in-None-clause-answer : goal.returns-in-None-clause-answer
returns-in-None-clause-answer g c =
    log_stored g.D.SectorDevice.state c.args.log.now c.has_block.new.self c.args.draft.now.changes _
    _ c.in-None.ensures c.has_block.ensures.answer

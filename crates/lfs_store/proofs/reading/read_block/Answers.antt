use Rattle.lfs_store.proofs.Keepings.{looked_done}
use Rattle.lfs_cleaner.proofs.of_log.LogReads.{reads_none}
use Rattle.lfs_store.proofs.Readings.{log_block}
use Rattle.lfs_store.proofs.reading.read_block.Goals as goal

pub returns-in-Some-clause-reads : goal.returns-in-Some-clause-reads
returns-in-Some-clause-reads g c =
    looked_done (reads_none _ _)

pub returns-in-Some-clause-answer : goal.returns-in-Some-clause-answer
returns-in-Some-clause-answer g c k m0 m keeps is = c.in-Some.ensures.says m

pub returns-in-None-clause-reads : goal.returns-in-None-clause-reads
returns-in-None-clause-reads g c =
    c.block-in-None.ensures.keeps

pub returns-in-None-clause-answer : goal.returns-in-None-clause-answer
returns-in-None-clause-answer g c =
    log_block g.D.SectorDevice.state c.args.log.now c.block-in-None.new.self c.args.draft.now.changes _ _
    c.block-in-None.new.out _ c.in-None.ensures.says c.block-in-None.ensures.answer

use Rattle.std.proofs.lemmas.Result.{on_err_weaker}
use Rattle.lfs_store.proofs.StoreSeen.{seen_read, seen_fault, seen_block_then}
use Rattle.lfs_store.proofs.files.StoreFiles.block.Goals as goal

pub returns-clause-reads : goal.returns-clause-reads
returns-clause-reads g c =
    seen_read _ _ _ c.block.ensures.reads

pub returns-clause-failed : goal.returns-clause-failed
returns-clause-failed g c =
    on_err_weaker _ (seen_fault g.D.SectorDevice.state c.args.self.now c.block.new.self) c.block.ensures.failed

pub returns-clause-answer : goal.returns-clause-answer
returns-clause-answer g c =
    seen_block_then g.D.SectorDevice.state c.args.self.now c.block.new.self c.args.number.value c.args.index _ _
    c.block.array_long c.block.ensures.zeros c.block.ensures.answer

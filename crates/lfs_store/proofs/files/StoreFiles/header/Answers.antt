use Rattle.std.proofs.lemmas.Result.{IfOk-weaker, on_err_weaker}
use Rattle.lfs_store.proofs.StoreSeen.{seen_read, seen_fault, seen_header}
use Rattle.lfs_store.proofs.files.StoreFiles.header.Goals as goal

pub returns-clause-reads : goal.returns-clause-reads
returns-clause-reads g c =
    seen_read _ _ _ c.header.ensures.reads

pub returns-clause-failed : goal.returns-clause-failed
returns-clause-failed g c =
    on_err_weaker _ (seen_fault g.D.SectorDevice.state c.args.self.now c.header.new.self) c.header.ensures.failed

pub returns-clause-answer : goal.returns-clause-answer
returns-clause-answer g c =
    IfOk-weaker _ _ _ (seen_header g.D.SectorDevice.state c.args.self.now c.header.new.self c.args.number.value) c.header.ensures.answer

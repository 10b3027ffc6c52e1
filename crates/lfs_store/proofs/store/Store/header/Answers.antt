use Rattle.lfs_store.proofs.Readings.{log_header}
use Rattle.lfs_store.proofs.store.Store.header.Goals as goal

pub returns-in-None-clause-answer : goal.returns-in-None-clause-answer
returns-in-None-clause-answer g c =
    log_header g.D.SectorDevice.state c.args.self.now.log c.header-in-None.new.self c.args.self.now.draft.changes _
    _ c.in-None.ensures c.header-in-None.ensures.answer

use Rattle.lfs_store.proofs.Mounted.{log_refused}
use Rattle.lfs_store.proofs.store.Store.open.Goals as goal

pub returns-clause-stores : goal.returns-clause-stores
returns-clause-stores g c = c.in-Ok-open.ensures.opened.holds

pub returns-in-Err-clause-cause : goal.returns-in-Err-clause-cause
returns-in-Err-clause-cause g c other =
    log_refused (g.D.SectorDevice.state _) (g.D.SectorDevice.state _) _ (c.in-Err.ensures.cause other)

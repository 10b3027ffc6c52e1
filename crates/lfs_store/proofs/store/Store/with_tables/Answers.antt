use Rattle.lfs_store.proofs.store.Store.with_tables.Goals as goal

pub returns-clause-stores : goal.returns-clause-stores
returns-clause-stores g c = c.in-Ok-with_tables.ensures.opened.holds

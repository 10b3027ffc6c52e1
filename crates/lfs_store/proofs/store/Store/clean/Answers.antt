use Rattle.lfs_cleaner.proofs.of_log.of_memory.Going.{ok_then}
use Rattle.lfs_store.proofs.Endings.{cleaned}
use Rattle.lfs_store.proofs.store.Store.clean.Goals as goal

pub returns-clause-cleans : goal.returns-clause-cleans
returns-clause-cleans g c =
    cleaned c.make_clean.ensures.totals (ok_then c.make_clean.result _ _ (λ cleans. cleans.makes) c.make_clean.ensures.done)
    c.make_clean.ensures.full c.make_clean.ensures.device c.make_clean.ensures.halted c.make_clean.ensures.still c.make_clean.ensures.quiet

use Rattle.lfs_cleaner.proofs.of_log.of_memory.Going.{ok_then}
use Rattle.lfs_store.proofs.Endings.{cleaned}
use Rattle.lfs_store.proofs.store.Store.clean_once.Goals as goal

pub returns-clause-cleans : goal.returns-clause-cleans
returns-clause-cleans g c =
    cleaned c.clean_once.ensures.totals (ok_then c.clean_once.result _ _ (λ cleans. cleans.makes) c.clean_once.ensures.done)
    c.clean_once.ensures.full c.clean_once.ensures.device c.clean_once.ensures.halted c.clean_once.ensures.still c.clean_once.ensures.quiet

pub returns-clause-once : goal.returns-clause-once
returns-clause-once g c = ok_then c.clean_once.result _ _ (λ cleans. cleans.once) c.clean_once.ensures.done

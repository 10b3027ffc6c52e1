use Rattle.std.proofs.Common.{refl}
use Rattle.lfs_cleaner.proofs.of_log.of_memory.Going.{ok_then}
use Rattle.lfs_store.proofs.Fitting.{header_replaced, header_appended}
use Rattle.lfs_store.proofs.draft.Draft.put_header.Goals as goal

pub returns-in_default-clause-done : goal.returns-in_default-clause-done
returns-in_default-clause-done c =
    ok_then _ _ _
    (λ put. header_appended _ _ put c.put_header.ensures.blocks c.put_header.ensures.loss) c.put_header.ensures.done

pub returns-clause-done : goal.returns-clause-done
returns-clause-done c =
    header_replaced _ _ (rw (← c.deref.ensures.value) c.in-Some.ensures) refl refl refl refl

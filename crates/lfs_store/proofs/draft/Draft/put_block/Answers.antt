use Rattle.std.proofs.Common.{refl}
use Rattle.lfs_cleaner.proofs.of_log.of_memory.Going.{ok_then}
use Rattle.lfs_store.proofs.Fitting.{block_replaced, block_appended}
use Rattle.lfs_store.proofs.Runs.{placed_again, placed_behind}
use Rattle.lfs_store.proofs.draft.Draft.put_block.Goals as goal

pub returns-in_default-clause-done : goal.returns-in_default-clause-done
returns-in_default-clause-done c =
    ok_then _ _ _
    (λ put. block_appended _ _ put c.put_block.ensures.headers c.put_block.ensures.loss) c.put_block.ensures.done

pub returns-clause-done : goal.returns-clause-done
returns-clause-done c =
    block_replaced _ (rw (← c.deref.ensures.value) c.in-Some.ensures) (refl, refl) refl refl refl

pub returns-in_default-clause-placed : goal.returns-in_default-clause-placed
returns-in_default-clause-placed c =
    ok_then _ _ _
    (λ put. placed_behind _ _ put) c.put_block.ensures.done

pub returns-clause-placed : goal.returns-clause-placed
returns-clause-placed c =
    placed_again (rw c.deref.ensures.value at c.in-Some.ensures)

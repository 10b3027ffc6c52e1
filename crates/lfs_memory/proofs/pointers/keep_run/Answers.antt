use Rattle.lfs_memory.proofs.PointerRuns.{run_still}
use Rattle.lfs_memory.proofs.pointers.keep_run.Goals as goal

pub returns-in_default-clause-kept : goal.returns-in_default-clause-kept
returns-in_default-clause-kept g c =
    run_still _ _ c.find_run.ensures.looks.looks c.requires.kept

pub returns-in_err-found-clause-kept : goal.returns-in_err-found-clause-kept
returns-in_err-found-clause-kept g c =
    run_still _ _ c.find_run.ensures.looks.looks c.requires.kept

use Rattle.lfs_memory.proofs.Going.{ok_then, err_then}
use Rattle.lfs_memory.proofs.staging.remove_tight.Goals as goal

pub returns-clause-done : goal.returns-clause-done
returns-clause-done g c = ok_then c.remove_file-removed.result _ _ (λ go. (c.remove_file-removed.new.memory, go, c.tighten.ensures))
    c.remove_file-removed.ensures.removed

pub returns-clause-kept : goal.returns-clause-kept
returns-clause-kept g c = err_then c.remove_file-removed.result _ _ (λ go. (c.remove_file-removed.new.memory, go, c.tighten.ensures))
    c.remove_file-removed.ensures.prepares

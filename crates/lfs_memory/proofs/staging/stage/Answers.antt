use Rattle.lfs_memory.proofs.Going.{ok_then, err_then}
use Rattle.lfs_memory.proofs.staging.stage.Goals as goal

pub returns-clause-done : goal.returns-clause-done
returns-clause-done g c = ok_then c.stage_if_room-staged.result _ _ (λ go. (c.stage_if_room-staged.new.memory, go, c.tighten.ensures))
    c.stage_if_room-staged.ensures.done

pub returns-clause-refused : goal.returns-clause-refused
returns-clause-refused g c = err_then c.stage_if_room-staged.result _ _ (λ go. (c.stage_if_room-staged.new.memory, go, c.tighten.ensures))
    c.stage_if_room-staged.ensures.refused

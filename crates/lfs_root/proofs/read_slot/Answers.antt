use Rattle.std.proofs.Common.{◌%◌, ap, sym, ◌∙◌}
use Rattle.lfs_model.specs.Checkpoint.{CheckpointValue}
use Rattle.lfs_root.proofs.Slots.{misplaced}
use Rattle.lfs_root.proofs.read_slot.Goals as goal

pub returns-then-checkpoint-from-clause-holds : goal.returns-then-checkpoint-from-clause-holds
returns-then-checkpoint-from-clause-holds g c keeps =
    misplaced _ _ _ c.in-Some.ensures.found.0 c.in-Some.ensures.found.1 (c.in-Ok.ensures.value keeps)
    (λ placed. c.if-checkpoint-from.true (ap (λ (v : CheckpointValue). v.number % 2) c.checkpoint.view_is ∙ placed ∙ sym c.from.ensures))

use Rattle.std.proofs.Common.{◌∙◌, ap}
use Rattle.lfs_model.specs.Checkpoint.{checkpoint_sector}
use Rattle.lfs_places.specs.Places.{place_of}
use Rattle.lfs_format.proofs.FirstMoments.{same_write}
use Rattle.lfs_format.proofs.making.write_checkpoint.Goals as goal

pub returns-clause-any_moment : goal.returns-clause-any_moment
returns-clause-any_moment g c =
    same_write (c.place-slot.ensures ∙ ap (λ p. place_of p 1) c.places_by.ensures)
    (c.encode.ensures ∙ ap checkpoint_sector c.checkpoint-checkpoint.ensures.value) c.write_durably.ensures.any_moment

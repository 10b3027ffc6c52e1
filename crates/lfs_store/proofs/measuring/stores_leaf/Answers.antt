use Rattle.std.proofs.Common.{◌∙◌}
use Rattle.lfs_store.proofs.Measured.{stores_leaf}
use Rattle.lfs_store.proofs.measuring.stores_leaf.Goals as goal

pub returns-in-Some-stored_after : goal.returns-in-Some-stored_after
returns-in-Some-stored_after c on =
    stores_leaf c.args.draft.now.changes c.args.number.value _ _ c.in-Some.ensures.some
    (λ m. c.in-Some-stored_after.ensures m ∙ on)

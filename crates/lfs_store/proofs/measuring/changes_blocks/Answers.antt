use Rattle.lfs_store.proofs.Measured.{leaves_blocks}
use Rattle.lfs_store.proofs.measuring.changes_blocks.Goals as goal

pub returns-in-None : goal.returns-in-None
returns-in-None c off =
    leaves_blocks c.args.draft.now.changes _ (c.takes_before.ensures off)
    (rw (← c.deref.ensures.value) c.in-None.ensures.none)

use Rattle.lfs_store.proofs.Readings.{says_after_loss}
use Rattle.lfs_store.proofs.draft.Draft.header.Goals as goal

pub returns-in-None : goal.returns-in-None
returns-in-None c =
    says_after_loss c.args.self.now.changes _ _ c.in-None.ensures c.header_after.ensures

use Rattle.lfs_store.proofs.StoreMade.{counts_made, makes}
use Rattle.lfs_store.proofs.store.Store.make.Goals as goal

pub returns-clause-done : goal.returns-clause-done
returns-clause-done g c =
    makes _ _ _ _ _ _ c.args.number.some c.requires.most (rw c.first_links.ensures at c.in-Ok.ensures.done)

pub returns-clause-counted : goal.returns-clause-counted
returns-clause-counted g c =
    counts_made _ _ _ _ _ c.args.number.some c.args.number.few (rw c.first_links.ensures at c.in-Ok.ensures.done) c.recounted-self.ensures

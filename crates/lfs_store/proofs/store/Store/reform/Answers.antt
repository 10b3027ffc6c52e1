use Rattle.lfs_store.proofs.StoreMade.{header_counts, reforms}
use Rattle.lfs_store.proofs.store.Store.reform.Goals as goal

pub returns-clause-done : goal.returns-clause-done
returns-clause-done g c =
    reforms _ _ _ _ _ _ _ c.in-Ok.ensures.done

pub returns-clause-counted : goal.returns-clause-counted
returns-clause-counted g c =
    header_counts _ _ _ c.args.self.now.drafted _ c.args.number.some c.args.number.few c.in-Ok.ensures.done.map

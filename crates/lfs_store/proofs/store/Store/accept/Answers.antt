use Rattle.lfs_store.proofs.store.Store.accept.Goals as goal

pub returns-clause-accepts : goal.returns-clause-accepts
returns-clause-accepts g c =
    let outcome = c.stage-outcome.result in
    rw c.give_up.ensures.keeps.log c.stage-outcome.ensures.accepts

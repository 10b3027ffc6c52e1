use Rattle.lfs_store.proofs.store.Store.recount.Goals as goal

pub returns-in_err-after-clause-counts : goal.returns-in_err-after-clause-counts
returns-in_err-after-clause-counts g c =
    let reads = c.measure.ensures.reads in
    record { reads = reads.log; draft = reads.draft }

pub returns-clause-counts : goal.returns-clause-counts
returns-clause-counts g c =
    let reads = c.measure.ensures.reads in
    record { reads = reads.log; draft = reads.draft }

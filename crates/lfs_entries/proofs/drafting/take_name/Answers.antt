use Rattle.lfs_entries.proofs.drafting.take_name.Goals as goal

pub returns-clause-counted : goal.returns-clause-counted
returns-clause-counted g c = c.in_ok-found.ensures.counted c.if-not-found.false

use Rattle.lfs_store.proofs.Upgrades.{counts_upgraded, upgrades}
use Rattle.lfs_store.proofs.store.Store.upgrade.Goals as goal

pub returns-clause-done : goal.returns-clause-done
returns-clause-done g c = upgrades c.requires.empty c.lose.ensures.headers c.lose.ensures.blocks (c.lose.ensures.alone c.requires.empty)

pub returns-clause-counted : goal.returns-clause-counted
returns-clause-counted g c = counts_upgraded (upgrades {d = c.lose.new.self}
    c.requires.empty c.lose.ensures.headers c.lose.ensures.blocks (c.lose.ensures.alone c.requires.empty))

use Rattle.std.proofs.Common.{refl}
use Rattle.lfs_store.proofs.StoreMade.{removes}
use Rattle.lfs_store.proofs.store.Store.lose_file.Goals as goal

pub returns-clause-done : goal.returns-clause-done
returns-clause-done g c =
    removes _ _ _ _ c.requires.empty c.lose.ensures.headers c.lose.ensures.blocks _ _ refl c.lose.ensures.loss
    (c.lose.ensures.alone c.requires.empty)

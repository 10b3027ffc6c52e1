use Rattle.std.proofs.Common.{refl, rules}
use Rattle.lfs_store.proofs.Cuttings.{drafts_cut}
use Rattle.lfs_store.proofs.store.Store.lose_blocks.Goals as goal

pub returns-clause-draft : goal.returns-clause-draft
returns-clause-draft g c =
    drafts_cut _ c.requires.empty refl refl refl refl (search rules)

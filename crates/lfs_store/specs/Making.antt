-- The version of the layout raised in a draft.
use Rattle.std.specs.Prelude.{◌≡◌, true, []}
use Rattle.lfs_model.specs.Raising.{raised}
use Rattle.lfs_model.specs.Stands.{LogMap}
use Rattle.lfs_store.specs.declared.draft.Draft.{Draft}
use Rattle.lfs_store.specs.StoreState.{Fits, with_draft}

-- The version of the layout is raised, and nothing else changes.
pub record DraftsUpgrade (d : Draft) : Type 0 where
  pub map : (m : LogMap) → with_draft d m ≡ raised true m
  -- where it was the first
  pub fits : (m : LogMap) → m.version ≡ 1 → Fits d m
  pub headers : d.changes.headers.items ≡ []
  pub blocks : d.changes.blocks.items ≡ []

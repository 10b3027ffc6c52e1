-- What calls on files tell of a store: of each log map that its log holds, with the draft.
use Rattle.std.specs.Prelude.{◌<◌}
use Rattle.lfs_model.specs.Checkpoint.{CheckpointValue}
use Rattle.lfs_model.specs.Device.{DeviceState}
use Rattle.lfs_model.specs.Stands.{LogMap}
use Rattle.lfs_model.specs.Tree.{Tree}
use Rattle.lfs_model.specs.TreeOf.{tree_in}
use Rattle.lfs_model.specs.Walk.{End, Refused}
use Rattle.lfs_store.specs.declared.draft.Draft.{Draft}
use Rattle.lfs_store.specs.log.LogState.{LogState, Holds}
use Rattle.lfs_store.specs.StoreState.{with_draft}
use Rattle.lfs_path.specs.declared.walk_fault.WalkFault.{WalkFault}
use Rattle.lfs_path.specs.Telling.{ByFault}
use Rattle.lfs_path.specs.Trees.{HasTree}

module _ {D : Type 0} (state : D → DeviceState) where
  -- this is so of each log map that the log holds, after the draft
  abbrev pub EachDrafted : LogState D → LogState D → Draft → (LogMap → Type 0) → Type 0
  EachDrafted h h' d P = (k : CheckpointValue) (m0 m : LogMap) → (state h'.device).keeps_model → Holds state h k m0 m → P (with_draft d m)

  -- a walk ends there
  abbrev pub WalksTo : LogState D → LogState D → Draft → (Tree → End → Type 0) → End → Type 0
  WalksTo h h' c W e = EachDrafted h h' c (λ m. HasTree m → W (tree_in m) e)

  -- it ends refused; or there is no answer, since a call of the device failed
  abbrev pub FailsWalk : LogState D → LogState D → Draft → Type 0
  FailsWalk h h' c = EachDrafted h h' c (λ m. HasTree m → (state h.device).failures < (state h'.device).failures)

  abbrev pub EndsRefused : LogState D → LogState D → Draft → (Tree → End → Type 0) → WalkFault → Type 0
  EndsRefused h h' c W fault = ByFault fault (FailsWalk h h' c) (λ r. WalksTo h h' c W (Refused r))

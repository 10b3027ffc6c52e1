-- The totals of a store as its draft changes one file, whose measure is taken before and after.
use Rattle.std.specs.Prelude.{◌≡◌, ◌⊎◌, ◌<◌, ◌≤◌, ◌+◌, ◌^◌, ℕ}
use Rattle.lfs_model.specs.Checkpoint.{CheckpointValue}
use Rattle.lfs_model.specs.Device.{DeviceState}
use Rattle.lfs_model.specs.Encodes.{IsLogMap}
use Rattle.lfs_model.specs.Stands.{LogMap, StandsLog}
use Rattle.lfs_model.specs.declared.limits.TheConstants.{FILE_BLOCKS}
use Rattle.lfs_model.specs.Objects.{IsChangedAt}
use Rattle.lfs_files.specs.Files.{FilesState}
use Rattle.lfs_cleaner.specs.log.memory.declared.changes.Changes.{Changes}
use Rattle.lfs_cleaner.specs.log.memory.Removing.{without_file}
use Rattle.lfs_cleaner.specs.log.LogState.{LogState, Holds}
use Rattle.lfs_store.specs.declared.totals.Measure.{Measure}
use Rattle.lfs_cleaner.specs.log.verify.declared.totals.BlockTotals.{BlockTotals}
use Rattle.lfs_store.specs.Measuring.{Measures}
use Rattle.lfs_store.specs.declared.draft.Draft.{Draft}
use Rattle.lfs_store.specs.StoreState.{with_draft}
use Rattle.lfs_model.specs.Totals.{IsCounted}

-- In a total one share takes the place of another, where the outcome is a number of 32 bits.
abbrev pub Replaces : ℕ → ℕ → ℕ → ℕ → Type 0
Replaces old before after new = before ≤ old + after → old + after < before + 2 ^ 32 → new + before ≡ old + after

-- these are the totals of the log map
abbrev pub AreTotals : LogMap → BlockTotals → Type 0
AreTotals m t = IsCounted m t.data_blocks t.meta_blocks

-- So in each of the totals.
pub record Recounts (old new : BlockTotals) (before after : Measure) : Type 0 where
  pub stored : Replaces old.data_blocks before.data_blocks after.data_blocks new.data_blocks
  pub above : Replaces old.meta_blocks before.meta_blocks after.meta_blocks new.meta_blocks

-- The version of the layout is raised: the totals stay.
abbrev pub CountsUpgraded : Draft → Type 0
CountsUpgraded d = (m : LogMap) (t : BlockTotals) → AreTotals m t → AreTotals (with_draft d m) t

module _ {S D : Type 0} where
  -- With the draft there is another log map, where no more than file n changed, and of its blocks no more than those from one index on up
  -- to another.
  pub record HasChanged (s' : FilesState S D) (m m' : LogMap) (n from to : ℕ) : Type 0 where
    pub map : LogMap
    pub has : s'.has m map
    pub only : IsChangedAt m' n map
    pub around : (i : ℕ) → i < FILE_BLOCKS → (i < from) ⊎ (to ≤ i) → map.block n i ≡ m'.block n i

  -- A draft that changes no more than that.
  abbrev pub ChangesOnly : FilesState S D → FilesState S D → ℕ → ℕ → ℕ → Type 0
  ChangesOnly s s' n from to = (m m' : LogMap) → s.has m m' → HasChanged s' m m' n from to

module _ {D : Type 0} (state : D → DeviceState) where
  -- The measure of file n takes the place of what it was before.
  pub record Remeasures (h h' : LogState D) (c : Changes) (n from to : ℕ) (before : Measure) (old new : BlockTotals) : Type 0 where
    pub after : Measure
    pub measures : Measures state h h' c n from to after
    pub recounts : Recounts old new before after

  -- BlockTotals of the log map become those of the log map without file n.
  abbrev pub CountsGone : LogState D → LogState D → ℕ → BlockTotals → BlockTotals → Type 0
  CountsGone h h' n old new = (k : CheckpointValue) (m0 m : LogMap) → (state h'.device).keeps_model → Holds state h k m0 m
      → IsLogMap m → IsLogMap (without_file n m) → AreTotals m old → AreTotals (without_file n m) new

  -- a mount counts the log map that the device stands for
  abbrev pub MountsTotals : D → LogState D → BlockTotals → Type 0
  MountsTotals d h t = (m : LogMap) → (state h.device).keeps_model → StandsLog (state d).content m → AreTotals m t

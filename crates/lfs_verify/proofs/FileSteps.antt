-- The stages that go through all files, at a file that isn't there.
use Rattle.std.proofs.Common.{◌≡◌, ◌<◌, ◌+◌, ℕ, List}
use Rattle.lfs_model.specs.Checkpoint.{CheckpointValue}
use Rattle.lfs_model.specs.Content.{Content}
use Rattle.lfs_model.specs.Entry.{Inode}
use Rattle.lfs_model.specs.Reach.{address, view}
use Rattle.lfs_verify.specs.declared.blocks.FileStage.{FileStage}
use Rattle.lfs_verify.specs.declared.blocks.FileStage.TheVariants as stage
use Rattle.lfs_verify.specs.FileStages.{file_step}
use Rattle.lfs_verify.specs.Walk.{Walked}
use Rattle.lfs_verify.proofs.BlockSteps.{file_passed}
use Rattle.lfs_verify.proofs.LeafSteps.{no_leaves}
use Rattle.lfs_verify.proofs.RootSteps.{double_none, root_none}

pub none_passed : (s : FileStage) (c : Content) (k : CheckpointValue) (n : ℕ) → n < 4096 → address c k (Inode n) ≡ 0 → {m : List ℕ}
    → Walked (view c k) m (file_step s n) → Walked (view c k) m (file_step s (n + 1))
none_passed stage.Roots c k n low none {m} w = root_none c k n none low m w
none_passed stage.Leaves c k n low none {m} w = no_leaves c k n low (double_none c k n none) w
none_passed stage.Data c k n low none {m} w = file_passed c k n low none m w

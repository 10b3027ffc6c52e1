-- The stages that go through all files: where each begins a file, and what it says of all.
-- All of it is an own choice.
use Rattle.std.specs.Prelude.{◌+◌, ◌*◌, ℕ}
use Rattle.lfs_model.specs.declared.limits.TheConstants.{BLOCK_POINTERS, FILE_BLOCKS}
use Rattle.lfs_model.specs.Reach.{View}
use Rattle.lfs_model.specs.Stands.{Blocks, Leaves, Roots}
use Rattle.lfs_verify.specs.declared.blocks.FileStage.{FileStage}
use Rattle.lfs_verify.specs.declared.blocks.FileStage.TheVariants as stage
use Rattle.lfs_verify.specs.declared.order.TheConstants.{FIRST_DATA, FIRST_LEAF, FIRST_ROOT}

-- the step at which a stage begins with file n
abbrev pub file_step : FileStage → ℕ → ℕ
file_step stage.Roots n = FIRST_ROOT + 2 * n
file_step stage.Leaves n = FIRST_LEAF + BLOCK_POINTERS * n
file_step stage.Data n = FIRST_DATA + FILE_BLOCKS * n

-- the stage holds
abbrev pub Holds : FileStage → View → Type 0
Holds stage.Roots v = Roots v
Holds stage.Leaves v = Leaves v
Holds stage.Data v = Blocks v

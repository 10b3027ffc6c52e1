-- The numbers of files.
use Rattle.std.specs.Prelude.{◌<◌, ◌≤◌, ℕ}
use Rattle.lfs_model.specs.declared.limits.TheConstants.{FILE_NUMBERS}

-- A file may have this number; 0 is no file's.
pub record IsFileNumber (n : ℕ) : Type 0 where
  pub some : 1 ≤ n
  pub few : n < FILE_NUMBERS

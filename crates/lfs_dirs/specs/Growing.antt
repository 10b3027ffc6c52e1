-- How much a draft grows.
use Rattle.std.specs.Prelude.{◌≤◌, ◌+◌, ℕ}
use Rattle.lfs_files.specs.Files.{FilesState}

module _ {S D : Type 0} where
  -- It changes at most so many headers, and so many blocks, more than it did before.
  pub record GrowsDirectory (s s' : FilesState S D) (more_headers more_blocks : ℕ) : Type 0 where
    pub headers : s'.headers ≤ s.headers + more_headers
    pub blocks : s'.blocks ≤ s.blocks + more_blocks

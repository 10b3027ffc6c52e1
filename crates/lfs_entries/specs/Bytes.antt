-- Bytes that are drafted into a file, and another length of it.
use Rattle.std.specs.Prelude.{ℕ, List}
use Rattle.lfs_files.specs.declared.header.Header.{Header}
use Rattle.lfs_files.specs.Files.{FilesState, SetsLen, Writes}
use Rattle.lfs_path.specs.Seeing.{HasHeader}
use Rattle.lfs_entries.specs.Telling.{InEach}

module _ {S D : Type 0} (s s' : FilesState S D) where
  -- Object n is there, and bytes are laid over it from a place on.
  pub record DraftsBytes (n at : ℕ) (bytes : List ℕ) : Type 0 where
    pub head : Header
    pub header : InEach s s' (HasHeader n head)
    pub writes : Writes s s' n head at bytes

  -- Object n is there, and is cut to a length or made longer.
  pub record DraftsLength (n len : ℕ) : Type 0 where
    pub head : Header
    pub header : InEach s s' (HasHeader n head)
    pub sets : SetsLen s s' n head len

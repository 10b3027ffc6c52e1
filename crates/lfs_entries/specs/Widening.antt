-- What a directory is that is drafted anew in form 1.
use Rattle.std.specs.Prelude.{ℕ}
use Rattle.lfs_model.specs.Objects.{IsDirectory}
use Rattle.lfs_model.specs.Stands.{LogMap}
use Rattle.lfs_files.specs.declared.header.Header.{Header}
use Rattle.lfs_files.specs.Headers.{as_header}
use Rattle.lfs_entries.specs.Sizes.{IsSmall}

-- Object d is a directory of this header as one of a volume: its slots are formed, and they are as many at most.
pub record MayWiden (d : ℕ) (head : Header) (m : LogMap) : Type 0 where
  pub formed : IsDirectory m d (as_header head)
  pub small : IsSmall head

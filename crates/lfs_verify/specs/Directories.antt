-- Blocks that are inodes of directories.
-- All of it is an own choice.
use Rattle.std.specs.Prelude.{◌≡◌, ℕ, List, Some}
use Rattle.lfs_model.specs.declared.Kind.TheVariants.{Directory}
use Rattle.lfs_model.specs.Inode.{InodeValue, inode_in}

-- a well-formed inode of a directory
pub record IsDirectoryInode (bytes : List ℕ) : Type 0 where
  pub value : InodeValue
  pub spelt : inode_in bytes ≡ Some value
  pub kind : value.kind ≡ Directory

-- The block of addresses: a pointer leaf, a double root or a block of the inode map.
-- Blocks of addresses under an inode, and an inode map in blocks, are those
-- of the Sprite LFS paper (1992, section 3.1); the bytes are an own choice.
use Rattle.std.specs.Prelude.{◌≡◌, ℕ, List, length}
use Rattle.lfs_model.specs.Fields.{words, Are32, numbers}
use Rattle.lfs_model.specs.declared.limits.TheConstants.{BLOCK_POINTERS}

unfoldable pub pointer_sector : List ℕ → List ℕ
pointer_sector addresses = words addresses

-- the addresses that a sector holds
abbrev pub pointers_of : List ℕ → List ℕ
pointers_of s = numbers BLOCK_POINTERS 0 s

-- what a block of addresses may be
pub record FitsPointers (addresses : List ℕ) : Type 0 where
  pub count : length addresses ≡ BLOCK_POINTERS
  pub fits : Are32 addresses

-- What a step of the blocks of an object finds, and where its blocks stand.
use Rattle.std.specs.Prelude.{◌≡◌, ◌≢◌, ◌-◌, ◌/◌, ◌%◌, ℕ, zero, suc, nat_lt, cond, get_or, List, Option, Some, IfSome}
use Rattle.lfs_model.specs.Checkpoint.{CheckpointValue}
use Rattle.lfs_model.specs.Content.{Content, block}
use Rattle.lfs_model.specs.Device.{DeviceState, cell_at}
use Rattle.lfs_model.specs.Entry.{Data, word}
use Rattle.lfs_model.specs.Fields.{zeros}
use Rattle.lfs_model.specs.Inode.{InodeValue, inode_in}
use Rattle.lfs_model.specs.Pointers.{pointers_of}
use Rattle.lfs_model.specs.Reach.{address, inode_block}
use Rattle.lfs_model.specs.declared.limits.TheConstants.{BLOCK_POINTERS, DIRECT_BLOCKS, SECTOR_LEN}
use Rattle.lfs_salvage.specs.declared.blocks.Blocks.{Blocks}
use Rattle.lfs_salvage.specs.declared.blocks.Goal.{Goal}
use Rattle.lfs_salvage.specs.declared.blocks.Goal.TheVariants as goal
use Rattle.lfs_salvage.specs.declared.blocks.Piece.{Piece}
use Rattle.lfs_salvage.specs.declared.blocks.Piece.TheVariants.{Block}
use Rattle.lfs_salvage.specs.declared.blocks.Row.{Row}

-- where a block is found, it is this sector and has these bytes
abbrev pub IsOf : ℕ → List ℕ → Piece → Type 0
IsOf sector bytes (Block block at found) = (at ≡ sector) × (found ≡ bytes)
IsOf sector bytes piece = Unit {0}

-- where a block is found, it has its sector's bytes, of a device that keeps the model, and they aren't all 0
abbrev pub FindsBlock : DeviceState → DeviceState → Option Piece → Type 0
FindsBlock old new (Some (Block block at found)) =
    (new.keeps_model → cell_at old.content at ≡ Some found) × (found ≢ zeros SECTOR_LEN)
FindsBlock old new piece = Unit {0}

-- the row of 128 addresses that a block's is in, behind those of the inode: 0 for the single one, then those in the double root
abbrev pub row_place : ℕ → ℕ
row_place i = (i - DIRECT_BLOCKS) / BLOCK_POINTERS

-- the sector of a row
abbrev pub row_address : Content → InodeValue → ℕ → ℕ
row_address content inode zero = inode.single
row_address content inode (suc q) = word (block content inode.double) q

-- the sector of a block of the object that an inode describes
abbrev pub block_address : Content → InodeValue → ℕ → ℕ
block_address content inode i =
    cond (nat_lt i DIRECT_BLOCKS) (get_or inode.direct i 0)
    (word (block content (row_address content inode (row_place i))) ((i - DIRECT_BLOCKS) % BLOCK_POINTERS))

-- It is the one that the volume's log has, from the checkpoint on.
abbrev pub AddressesAgree : Type 0
AddressesAgree = (content : Content) (k : CheckpointValue) (n : ℕ) (inode : InodeValue) → inode_in (inode_block content k n) ≡ Some inode
    → (i : ℕ) → address content k (Data n i) ≡ block_address content inode i

-- where a block is found, it is the one that the inode has at its place
abbrev pub IsAddressed : Content → InodeValue → Piece → Type 0
IsAddressed content inode (Block i at found) = at ≡ block_address content inode i
IsAddressed content inode piece = Unit {0}

-- the addresses at hand are those that stand in the content
pub record HoldsAddresses (content : Content) (inode : InodeValue) (last : Option Row) (double : Option (List ℕ)) : Type 0 where
  pub row : IfSome last (λ r. r.addresses ≡ pointers_of (block content (row_address content inode r.place)))
  pub root : IfSome double (λ addresses. addresses ≡ pointers_of (block content inode.double))

-- a walk over the blocks of an object whose addresses are those of the content
abbrev pub Follows : Content → Blocks → Type 0
Follows content blocks = HoldsAddresses content blocks.inode blocks.row blocks.root

-- the addresses at hand are as they were
pub record KeepsAddresses (old new : Blocks) : Type 0 where
  pub inode : new.inode ≡ old.inode
  pub row : new.row ≡ old.row
  pub root : new.root ≡ old.root

-- the sector that has what the next step reads
abbrev pub goal_address : Content → Blocks → Goal → ℕ
goal_address content blocks goal.Block = block_address content blocks.inode blocks.next
goal_address content blocks goal.Row = row_address content blocks.inode (row_place blocks.next)
goal_address content blocks goal.Root = blocks.inode.double

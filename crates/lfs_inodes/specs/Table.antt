-- What calls on the table of blocks in memory do.
use Rattle.std.specs.Prelude.{◌≡◌, ◌≤◌, ◌+◌, cond, true, ℕ, List, length, is_some, Some}
use Rattle.std.specs.Ordering.{nat_cmp}
use Rattle.std.specs.Option.{option_map}
use Rattle.std.specs.FinMap.{find}
use Rattle.lfs_model.specs.Cutting.{LeavesOut}
use Rattle.lfs_model.specs.Memory.{patched}
use Rattle.lfs_model.specs.Running.{Moves}
use Rattle.lfs_model.specs.Staging.{ChangesTo, Fetches}
use Rattle.lfs_inodes.specs.declared.key.BlockKey.{BlockKey}
use Rattle.lfs_inodes.specs.Blocks.{TableValue, altered, blocks_of}
use Rattle.lfs_inodes.specs.Clearing.{LeavesPast, zeroed}
use Rattle.lfs_inodes.specs.Data.{data_count, is_data_code}
use Rattle.lfs_inodes.specs.Key.{entry_of}

-- it takes so many blocks at present
pub record IsLimited (old new : TableValue) (most : ℕ) : Type 0 where
  pub blocks : new.blocks ≡ old.blocks
  pub limit : new.capacity.limit ≡ most
  pub room : new.capacity.room ≡ old.capacity.room

-- a number stands at a word of the block, if that is there
pub record Patches (old new : TableValue) (key : BlockKey) (place number : ℕ) : Type 0 where
  pub changed : ChangesTo (blocks_of old) (blocks_of new) (entry_of key) (option_map (patched place number) (blocks_of old (entry_of key)))
  pub patched : new ≡ record old { blocks = altered (patched place number) key.code old.blocks }
  pub data_blocks : data_count new ≡ data_count old
  pub length : length new.blocks ≡ length old.blocks

-- 0 stands at so many words of it, from word `first` on
pub record ClearsWords (old new : TableValue) (key : BlockKey) (first number : ℕ) : Type 0 where
  pub changed : ChangesTo (blocks_of old) (blocks_of new) (entry_of key) (option_map (zeroed first number) (blocks_of old (entry_of key)))
  pub capacity : new.capacity ≡ old.capacity
  pub length : length new.blocks ≡ length old.blocks

-- the block is there, and its parent points to it in memory
pub record TakesIn (old new : TableValue) (key : BlockKey) (bytes : List ℕ) : Type 0 where
  pub fetches : Fetches (blocks_of old) (blocks_of new) (entry_of key) bytes
  pub capacity : new.capacity ≡ old.capacity
  pub length : length new.blocks ≡ cond (is_some (find nat_cmp key.code old.blocks)) (length old.blocks) (length old.blocks + 1)

-- the block is there no more, and its parent points to an address
pub record GivesOut (old new : TableValue) (key : BlockKey) (address : ℕ) : Type 0 where
  pub moves : Moves (blocks_of old) (blocks_of new) (entry_of key) address
  pub data_blocks : (bytes : List ℕ) → blocks_of old (entry_of key) ≡ Some bytes → is_data_code key.code ≡ true
      → data_count new + 1 ≡ data_count old
  pub no_more : length new.blocks ≤ length old.blocks
  pub capacity : new.capacity ≡ old.capacity
  pub length : (bytes : List ℕ) → blocks_of old (entry_of key) ≡ Some bytes → length new.blocks + 1 ≡ length old.blocks

-- no block of file n is there
pub record Forgets (old new : TableValue) (n : ℕ) : Type 0 where
  pub leaves : LeavesOut (blocks_of old) (blocks_of new) n
  pub few : length new.blocks ≤ length old.blocks
  pub capacity : new.capacity ≡ old.capacity

-- none of it from block `first` on is
pub record ForgetsPast (old new : TableValue) (n first : ℕ) : Type 0 where
  pub leaves : LeavesPast (blocks_of old) (blocks_of new) n first
  pub few : length new.blocks ≤ length old.blocks
  pub capacity : new.capacity ≡ old.capacity

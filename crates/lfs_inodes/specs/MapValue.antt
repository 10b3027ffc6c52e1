-- What the inode map in memory says, and what its blocks say on a device.
use Rattle.std.specs.Prelude.{◌≡◌, ◌<◌, ◌≤◌, ◌+◌, ◌*◌, cond, ℕ, Bool, false, List, length, get_or}
use Rattle.lfs_model.specs.Entry.{Inode, Map, word}
use Rattle.lfs_model.specs.Stands.{LogMap}
use Rattle.lfs_model.specs.Memory.{HasPointer, is_nameless, shown}
use Rattle.lfs_model.specs.Running.{Tables}
use Rattle.lfs_model.specs.declared.limits.TheConstants.{BLOCK_POINTERS, FILE_NUMBERS, MAP_BLOCKS, SECTOR_LEN}

pub record MapValue : Type 0 where
  -- the address of the inode of each number: 0 for none, 1 for one in memory
  pub addresses : List ℕ
  -- the files without a name
  pub hidden : List Bool
  -- the address of each block of the map: 0 for none, 1 for one that is to be written
  pub blocks : List ℕ

abbrev pub address_in : MapValue → ℕ → ℕ
address_in v n = get_or v.addresses n 0

abbrev pub is_hidden_in : MapValue → ℕ → Bool
is_hidden_in v n = get_or v.hidden n false

abbrev pub block_in : MapValue → ℕ → ℕ
block_in v j = get_or v.blocks j 0

-- the address that a block of the map shows
abbrev pub shown_in : MapValue → ℕ → ℕ
shown_in v n = cond (is_hidden_in v n) 0 (address_in v n)

pub record IsMap (v : MapValue) : Type 0 where
  pub addresses : length v.addresses ≡ FILE_NUMBERS
  pub hidden : length v.hidden ≡ FILE_NUMBERS
  pub blocks : length v.blocks ≡ MAP_BLOCKS

-- no inode, and no block
pub record IsEmptyMap (v : MapValue) : Type 0 where
  pub addresses : (n : ℕ) → address_in v n ≡ 0
  pub hidden : (n : ℕ) → is_hidden_in v n ≡ false
  pub blocks : (j : ℕ) → block_in v j ≡ 0

-- block j of the map shows no inode
abbrev pub ShowsNone : MapValue → ℕ → Type 0
ShowsNone v j = (i : ℕ) → i < BLOCK_POINTERS → shown_in v (BLOCK_POINTERS * j + i) ≡ 0

-- the bytes are block j of the map, which shows one
pub record SpellsShown (v : MapValue) (j : ℕ) (bytes : List ℕ) : Type 0 where
  pub long : length bytes ≡ SECTOR_LEN
  pub spells : (i : ℕ) → i < BLOCK_POINTERS → word bytes i ≡ shown_in v (BLOCK_POINTERS * j + i)
  pub some : HasPointer bytes

-- the map is that of these tables, and the files that it hides are those that the log map has without a name
pub record IsMapOf (v : MapValue) (m : LogMap) (t : Tables) : Type 0 where
  pub inodes : (n : ℕ) → n < FILE_NUMBERS → t.at (Inode n) ≡ address_in v n
  pub hidden : (n : ℕ) → n < FILE_NUMBERS → is_nameless m n ≡ is_hidden_in v n
  pub blocks : (j : ℕ) → j < MAP_BLOCKS → t.at (Map j) ≡ block_in v j

-- the inodes that block j shows have addresses on the device
abbrev pub AreSettled : LogMap → Tables → ℕ → Type 0
AreSettled m t j = (i : ℕ) → i < BLOCK_POINTERS → shown m t.at (Inode (BLOCK_POINTERS * j + i)) ≡ 1 → ⊥

-- a number that no file has
pub record IsUnusedNumber (v : MapValue) (n : ℕ) : Type 0 where
  pub some : 1 ≤ n
  pub few : n < FILE_NUMBERS
  pub free : address_in v n ≡ 0
  pub least : (k : ℕ) → 1 ≤ k → k < n → 0 < address_in v k

-- the addresses of block j of the map are these, and nothing else changes
pub record IsLoaded (old new : MapValue) (j : ℕ) (addresses : List ℕ) : Type 0 where
  pub own : (i : ℕ) → i < BLOCK_POINTERS → address_in new (BLOCK_POINTERS * j + i) ≡ get_or addresses i 0
  pub before : (n : ℕ) → n < BLOCK_POINTERS * j → address_in new n ≡ address_in old n
  pub past : (n : ℕ) → BLOCK_POINTERS * j + BLOCK_POINTERS ≤ n → address_in new n ≡ address_in old n
  pub hidden : new.hidden ≡ old.hidden
  pub blocks : new.blocks ≡ old.blocks

-- Small numbers for the blocks of files, in an order in which each block comes before the block that points to it.
use Rattle.std.specs.Prelude.{◌≡◌, ◌<◌, ◌≤◌, ◌+◌, ◌*◌, ◌/◌, ◌%◌, ◌^◌, ◌&&◌, cond, nat_le, ℕ, zero, suc, Bool}
use Rattle.lfs_model.specs.declared.BlockKind.{BlockKind}
use Rattle.lfs_model.specs.declared.BlockKind.TheVariants as kind
use Rattle.lfs_model.specs.Entry.{Entry, Data, Leaf, Double, Inode, Map, Usage, entry_by}
use Rattle.lfs_model.specs.declared.limits.TheConstants.{FILE_NUMBERS, LAST_NUMBER, LAST_BLOCK, LAST_LEAF}
use Rattle.lfs_inodes.specs.declared.key.TheConstants.{FILE, KIND}

-- whether a key may have this file and, at most this, this index
abbrev pub fits : ℕ → ℕ → ℕ → Bool
fits file index most = nat_le 1 file && (nat_le file LAST_NUMBER && nat_le index most)

-- the number of an entry: its kind in bits 27 and 28, its file in bits 15 to 26, its index in bits 0 to 14; 2^32 for what no key names
abbrev pub code : Entry → ℕ
code (Data n i) = cond (fits n i LAST_BLOCK) (FILE * n + i) (2 ^ 32)
code (Leaf n q) = cond (fits n q LAST_LEAF) (KIND + FILE * n + q) (2 ^ 32)
code (Double n) = cond (fits n 0 0) (2 * KIND + FILE * n) (2 ^ 32)
code (Inode n) = cond (fits n 0 0) (3 * KIND + FILE * n) (2 ^ 32)
code (Map j) = 2 ^ 32
code (Usage j) = 2 ^ 32

-- the kind by its rank
abbrev pub kind_by : ℕ → BlockKind
kind_by zero = kind.Data
kind_by (suc zero) = kind.Leaf
kind_by (suc (suc zero)) = kind.Double
kind_by (suc (suc (suc r))) = kind.Inode

-- the entry of a number
abbrev pub entry_at : ℕ → Entry
entry_at c = entry_by (kind_by (c / KIND)) (c / FILE % FILE_NUMBERS) (c % FILE)

-- the numbers of entries
pub record IsCode (c : ℕ) : Type 0 where
  pub small : c < 4 * KIND
  pub file : FILE ≤ c % KIND
  pub data_index : c < KIND → c % FILE ≤ LAST_BLOCK
  pub leaf_index : KIND ≤ c → c < 2 * KIND → c % FILE ≤ LAST_LEAF
  pub no_index : 2 * KIND ≤ c → c % FILE ≡ 0

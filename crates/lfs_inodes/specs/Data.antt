-- How many data blocks are in memory. Their keys come before all others.
use Rattle.std.specs.Prelude.{cond, nat_lt, ℕ, Bool, sum_by}
use Rattle.lfs_inodes.specs.Blocks.{TableValue}
use Rattle.lfs_inodes.specs.declared.key.TheConstants.{KIND}

-- the number is that of a data block: its kind, in bits 27 and 28, is 0
abbrev pub is_data_code : ℕ → Bool
is_data_code c = nat_lt c KIND

unfoldable pub data_count : TableValue → ℕ
data_count t = sum_by (λ e. cond (is_data_code e.0) 1 0) t.blocks

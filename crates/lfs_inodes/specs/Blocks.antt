-- The blocks of files in memory, as a list in the order of their numbers, and as the log sees them.
use Rattle.std.specs.Prelude.{◌≡◌, ◌<◌, ◌≤◌, ℕ, List, [], length, get_or, Option, Some, None}
use Rattle.std.specs.Ordering.{nat_cmp}
use Rattle.std.specs.FinMap.{find, put}
use Rattle.lfs_model.specs.Running.{Dirty}
use Rattle.lfs_inodes.specs.Code.{code}

-- a number of an entry, and the bytes of its block
abbrev pub Blocks : Type 0
Blocks = List (ℕ × List ℕ)

-- how many blocks a table takes at present, and for how many it has memory
pub record Capacity : Type 0 where
  pub limit : ℕ
  pub room : ℕ

-- the table: its blocks by rising numbers, and how many there may be
pub record TableValue : Type 0 where
  pub blocks : Blocks
  pub capacity : Capacity

abbrev pub blocks_in : Blocks → Dirty
blocks_in es x = find nat_cmp (code x) es

abbrev pub blocks_of : TableValue → Dirty
blocks_of t = blocks_in t.blocks

-- the number at a place
abbrev pub number_at : Blocks → ℕ → ℕ
number_at es i = let e = get_or es i (0, []) in e.0

-- the block of this number is at place i
pub record HasNumberAt (es : Blocks) (c i : ℕ) : Type 0 where
  pub within : i < length es
  pub number : number_at es i ≡ c

-- no block has this number, and it would go to place i
pub record IsGapFor (es : Blocks) (c i : ℕ) : Type 0 where
  pub within : i ≤ length es
  pub before : (j : ℕ) → j < i → number_at es j < c
  pub after : (j : ℕ) → i ≤ j → j < length es → c < number_at es j

-- the block of a number changed, if there is one
abbrev pub altered_as : Option (List ℕ) → (List ℕ → List ℕ) → ℕ → Blocks → Blocks
altered_as None f c es = es
altered_as (Some bytes) f c es = put nat_cmp c (f bytes) es

abbrev pub altered : (List ℕ → List ℕ) → ℕ → Blocks → Blocks
altered f c es = altered_as (find nat_cmp c es) f c es

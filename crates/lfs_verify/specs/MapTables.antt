-- Tables of inode addresses in memory.
-- All of it is an own choice.
use Rattle.std.specs.Prelude.{◌≡◌, ◌<◌, ◌≤◌, ◌+◌, ◌*◌, ℕ, List, length, get_or}
use Rattle.lfs_model.specs.declared.limits.TheConstants.{BLOCK_POINTERS}
use Rattle.lfs_model.specs.Entry.{Inode, word}
use Rattle.lfs_model.specs.Reach.{View}

-- the first n numbers of a block stand from this place on, and all else is as it was
pub record Copies (bytes old new : List ℕ) (at n : ℕ) : Type 0 where
  pub own : (i : ℕ) → i < n → get_or new (at + i) 0 ≡ word bytes i
  pub before : (j : ℕ) → j < at → get_or new j 0 ≡ get_or old j 0
  pub after : (j : ℕ) → at + n ≤ j → get_or new j 0 ≡ get_or old j 0
  pub size : length new ≡ length old

-- the addresses that the first blocks of the inode map have
abbrev pub ListsUpTo : View → List ℕ → ℕ → Type 0
ListsUpTo v map blocks = (n : ℕ) → n < BLOCK_POINTERS * blocks → get_or map n 0 ≡ v.address (Inode n)

-- nothing stands for the other blocks
abbrev pub IsEmptyFrom : List ℕ → ℕ → Type 0
IsEmptyFrom map blocks = (n : ℕ) → BLOCK_POINTERS * blocks ≤ n → get_or map n 0 ≡ 0

-- Blocks that come into memory as they are: the start of each change of a file, of a segment's cleaning and of a table block's way out.
-- That live blocks are read and written again elsewhere is cleaning in
-- the Sprite LFS paper (1992, section 3.3); the steps are an own choice.
use Rattle.std.specs.Prelude.{◌≡◌, ◌≤◌, ◌/◌, ℕ, true}
use Rattle.lfs_model.specs.Entry.{Entry, Inode, Map, Usage}
use Rattle.lfs_model.specs.Content.{Content}
use Rattle.lfs_model.specs.Stands.{LogMap}
use Rattle.lfs_model.specs.Memory.{Memory, parent, pointer, patched, IsOfFile, is_shown}
use Rattle.lfs_model.specs.Laid.{IsLaid}
use Rattle.lfs_model.specs.declared.limits.TheConstants.{BLOCK_POINTERS}

-- x has no address in M': it is in memory, for v being 1, or has no block, for 0; and nothing else moves
pub record IsTaken (M : Memory) (x : Entry) (v : ℕ) (M' : Memory) : Type 0 where
  pub segments : M'.segments ≡ M.segments
  pub least : v ≤ 1
  pub at : M'.at x ≡ v
  pub others : (y : Entry) → (y ≡ x → ⊥) → M'.at y ≡ M.at y
  pub rows : M'.rows ≡ M.rows

-- a block of a file, whose parent is in memory and points to it there from
-- now on; for an inode that is shown, its inode map block will be written
pub record IsLifting (m : LogMap) (M : Memory) (x : Entry) (M' : Memory) : Type 0 where
  pub taken : IsTaken M x 1 M'
  pub was : 2 ≤ M.at x
  pub of_file : IsOfFile x
  pub above : (parent x ≡ x → ⊥) → M.at (parent x) ≡ 1
  pub map : (n : ℕ) → x ≡ Inode n → is_shown m x ≡ true → M.at (Map (n / BLOCK_POINTERS)) ≡ 1
  pub own : M'.bytes x ≡ M.bytes x
  pub patched : (parent x ≡ x → ⊥) → M'.bytes (parent x) ≡ patched (pointer x) 1 (M.bytes (parent x))
  pub kept : (y : Entry) → (y ≡ x → ⊥) → (y ≡ parent x → ⊥) → M'.bytes y ≡ M.bytes y

abbrev pub Lifting : Type 0
Lifting = (e : Content) (m : LogMap) (M : Memory) (opened_at : ℕ) (x : Entry) (M' : Memory) → IsLaid e m M opened_at → IsLifting m M x M'
    → IsLaid e m M' opened_at

-- An inode map block will be written, whether it is stored now or not.
pub record IsMapLifting (M : Memory) (j : ℕ) (M' : Memory) : Type 0 where
  pub taken : IsTaken M (Map j) 1 M'
  pub bytes : M'.bytes ≡ M.bytes

abbrev pub MapLifting : Type 0
MapLifting = (e : Content) (m : LogMap) (M : Memory) (opened_at j : ℕ) (M' : Memory) → IsLaid e m M opened_at → IsMapLifting M j M'
    → IsLaid e m M' opened_at

-- A usage block of the volume will be written.
pub record IsUsageLifting (M : Memory) (j : ℕ) (M' : Memory) : Type 0 where
  pub taken : IsTaken M (Usage j) 1 M'
  pub was : 2 ≤ M.at (Usage j)
  pub bytes : M'.bytes ≡ M.bytes

abbrev pub UsageLifting : Type 0
UsageLifting = (e : Content) (m : LogMap) (M : Memory) (opened_at j : ℕ) (M' : Memory) → IsLaid e m M opened_at → IsUsageLifting M j M'
    → IsLaid e m M' opened_at

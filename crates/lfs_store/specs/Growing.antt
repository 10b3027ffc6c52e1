-- How much a draft asks for, and in what order its blocks stand.
use Rattle.std.specs.Prelude.{◌≡◌, ◌+◌, ◌*◌, ℕ, List, [], ◌∷◌, ◌++◌}
use Rattle.lfs_cleaner.specs.log.memory.declared.batch.BlockEdit.{BlockEdit}
use Rattle.lfs_cleaner.specs.log.memory.declared.changes.Changes.{Changes}
use Rattle.lfs_store.specs.Drafting.{IsBlock, NoBlock}

-- how many blocks of memory a draft asks for at most that changes so many headers and blocks: two for each header, four for each block,
-- those on the way to it among them, and four more
abbrev pub asked_by_changes : ℕ → ℕ → ℕ
asked_by_changes headers blocks = 2 * headers + 4 * blocks + 4

-- how many blocks of memory it asks for where it lays no more bytes over a file than one call gives, and nothing else
abbrev pub asked_by_transfer : ℕ
asked_by_transfer = 144

-- Block i of file n comes behind the blocks that the draft has.
pub record AppendsBlock (c c' : Changes) (n i : ℕ) : Type 0 where
  pub edit : BlockEdit
  pub block : IsBlock n i edit
  pub blocks : c'.blocks.items ≡ c.blocks.items ++ edit ∷ []

-- It does where the draft hasn't that block yet.
abbrev pub PlacesBlock : Changes → Changes → ℕ → ℕ → Type 0
PlacesBlock c c' n i = NoBlock n i c.blocks.items → AppendsBlock c c' n i

-- These are the blocks of file n from one index on, up to another, each behind the one before it.
abbrev pub IsRun : ℕ → ℕ → ℕ → List BlockEdit → Type 0
IsRun n from to [] = from ≡ to
IsRun n from to (e ∷ es) = IsBlock n from e × IsRun n (from + 1) to es

-- What a pass of the cleaner has brought into memory so far, and where it went from there.
use Rattle.std.specs.Prelude.{◌≡◌, ◌≤◌, ◌⊎◌, ◌+◌, ℕ, List, length}
use Rattle.lfs_model.specs.Entry.{Entry}
use Rattle.lfs_model.specs.Members.{IsIn, AreApart}
use Rattle.lfs_model.specs.Memory.{Memory, IsOfFile}
use Rattle.lfs_log.specs.Groups.{closes_at}
use Rattle.lfs_log.specs.Relocating.{IsAmong, StandsWhere}

-- the block has left these segments, and no group from this one on leads through it
pub record IsPast (victims : List ℕ) (group : ℕ) (M : Memory) (x : Entry) : Type 0 where
  pub outside : IsAmong victims (M.at x) → ⊥
  pub closed : closes_at x ≤ group

-- Blocks of files that a pass over these segments brought into memory, M0 before and M now: each once, all others where they were. With
-- those that it may still bring they are so many.
pub record HasBrought (victims : List ℕ) (total left group : ℕ) (M0 M : Memory) : Type 0 where
  pub brought : List Entry
  pub counted : length brought + left ≡ total
  pub apart : AreApart brought
  pub files : (x : Entry) → IsIn brought x → IsOfFile x
  -- each stood on the device, one of data in one of the segments
  pub stood : (x : Entry) → IsIn brought x → StandsWhere (IsAmong victims) M0 x
  -- and is in memory, or went elsewhere
  pub now : (x : Entry) → IsIn brought x → (M.at x ≡ 1) ⊎ IsPast victims group M x
  pub inside : (x : Entry) → IsOfFile x → M.at x ≡ 1 → IsIn brought x
  pub others : (x : Entry) → IsOfFile x → (IsIn brought x → ⊥) → M.at x ≡ M0.at x

-- more blocks than so many stood there, of which those of data stood in these segments
pub record OutNumber (victims : List ℕ) (total : ℕ) (M0 : Memory) : Type 0 where
  pub blocks : List Entry
  pub counted : length blocks ≡ total + 1
  pub apart : AreApart blocks
  pub files : (x : Entry) → IsIn blocks x → IsOfFile x
  pub stood : (x : Entry) → IsIn blocks x → StandsWhere (IsAmong victims) M0 x

-- a call takes a pass from one group to another, whatever it may bring in all
abbrev pub Passes : List ℕ → ℕ → ℕ → ℕ → ℕ → Memory → Memory → Type 0
Passes victims left left' group group' M M' = (total : ℕ) (M0 : Memory) → HasBrought victims total left group M0 M
    → HasBrought victims total left' group' M0 M'

-- the block doesn't stand in these segments
abbrev pub IsOut : List ℕ → Memory → Entry → Type 0
IsOut victims M x = 2 ≤ M.at x → IsAmong victims (M.at x) → ⊥

-- what had left them has
abbrev pub StaysOut : List ℕ → Memory → Memory → Type 0
StaysOut victims M M' = (x : Entry) → IsOut victims M x → IsOut victims M' x

-- no block stands in these segments any more
abbrev pub AreAllOut : List ℕ → Memory → Memory → Type 0
AreAllOut victims M M' = (x : Entry) → IsOut victims M' x

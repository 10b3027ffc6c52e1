-- What is said of a device that is only read, and of one address of the walk.
-- All of it is an own choice.
use Rattle.std.specs.Prelude.{◌≡◌, ◌<◌, ◌≤◌, ◌+◌, ◌⊎◌, ℕ, suc, Bool, true, false, List, [], length, get_or, set}
use Rattle.lfs_model.specs.declared.limits.TheConstants.{BLOCK_POINTERS, FILE_NUMBERS}
use Rattle.lfs_model.specs.Content.{Content, block}
use Rattle.lfs_model.specs.Device.{DeviceState, Carries, IsUntouched, LeavesOnly}
use Rattle.lfs_model.specs.Entry.{Inode, word}
use Rattle.lfs_model.specs.Reach.{View}
use Rattle.lfs_verify.specs.Walk.{IsUnmarked, Walked}

-- A call that only reads leaves the content as it is, and at no moment does a stop leave what it couldn't leave before. No order is told.
pub record Looks (old new : DeviceState) : Type 0 where
  pub carries : Carries old new
  pub untouched : IsUntouched old new
  pub any_moment : LeavesOnly old new old.may_leave
  pub told : new.told ≡ old.told

-- A call that syncs once at most, and only reads else.
pub record SyncsOnce (old new : DeviceState) : Type 0 where
  pub carries : Carries old new
  pub untouched : IsUntouched old new
  pub any_moment : LeavesOnly old new old.may_leave
  pub told : length new.told ≤ length old.told + 1

-- this content was read, by a device that keeps the device model
pub record ReadsContent (old new : DeviceState) (c : Content) : Type 0 where
  pub content : old.content ≡ c
  pub keeps : new.keeps_model

-- a block of addresses that leads somewhere
abbrev pub SomeWord : List ℕ → Type 0
SomeWord bytes = (i : ℕ) × (i < BLOCK_POINTERS) × (0 < word bytes i)

-- An address at a step: passed by where it is 0, taken where it is open and its block has P; refused else.
abbrev pub TakesAddress : (List ℕ → Type 0) → Content → List ℕ → List ℕ → ℕ → ℕ → Bool → Type 0
TakesAddress P c old new at step true = ((at ≡ 0) × (new ≡ old)) ⊎ (IsUnmarked old at × P (block c at) × (new ≡ set old at (suc step)))
TakesAddress P c old new at step false = (0 < at) × (IsUnmarked old at → P (block c at) → ⊥)

-- The block at an address at a step: taken and read where it is open; else it isn't open, or no bytes are read.
abbrev pub TakesBlock : Content → List ℕ → List ℕ → ℕ → ℕ → List ℕ → Bool → Type 0
TakesBlock c old new at step out true = IsUnmarked old at × (block c at ≡ out) × (new ≡ set old at (suc step))
TakesBlock c old new at step out false = IsUnmarked old at → block c at ≡ []

-- the table of inode addresses
abbrev pub Lists : View → List ℕ → Type 0
Lists v map = (n : ℕ) → n < FILE_NUMBERS → get_or map n 0 ≡ v.address (Inode n)

-- From step r to step s, or a proof that the stage fails.
abbrev pub Advances : View → List ℕ → List ℕ → ℕ → ℕ → Type 0 → Bool → Type 0
Advances v old new r s stage true = Walked v old r → Walked v new s
Advances v old new r s stage false = Walked v old r → stage → ⊥

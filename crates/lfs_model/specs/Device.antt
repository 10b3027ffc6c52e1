-- What contracts see of a sector device, what its calls do, and what a stop leaves.
-- All of it is an own choice: it is what is assumed of a disk.
use Rattle.std.specs.Prelude.{◌≡◌, ◌⊎◌, ◌↔◌, ℕ, ◌+◌, ◌^◌, ◌<◌, ◌≤◌, Option, Some, None, List, [], ◌∷◌, length, slice_set, slice_index}
use Rattle.std.specs.Prelude.{slice_index_or}
use Rattle.std.specs.List.{AllByRecursion}
use Rattle.lfs_model.specs.declared.Order.{Order}
use Rattle.lfs_model.specs.declared.limits.TheConstants.{SECTOR_LEN}

-- what a sector holds: its 512 bytes, or None where it can't be read
abbrev pub Cell : Type 0
Cell = Option (List ℕ)

-- a sector's bytes: 512 numbers below 256
pub record AreSectorBytes (bytes : List ℕ) : Type 0 where
  pub size : length bytes ≡ SECTOR_LEN
  pub each : (i : ℕ) → slice_index bytes i < 256

-- what a sector may hold
abbrev pub IsSector : Cell → Type 0
IsSector None = Unit {0}
IsSector (Some bytes) = AreSectorBytes bytes

-- what contracts see of a device
pub record DeviceState : Type 1 where
  -- the number of sectors
  pub size : ℕ
  -- the present content, a cell a sector
  pub content : List Cell
  -- the contents that a stop now may leave
  pub may_leave : List Cell → Type 0
  -- the clock: a number that doesn't fall
  pub moment : ℕ
  -- the contents that a stop at some moment since that one might have left
  pub left_since : ℕ → List Cell → Type 0
  -- and those that one might have left at some moment from the first of these to the second
  pub left_until : ℕ → ℕ → List Cell → Type 0
  -- the unit that each sector is of: a write may spoil the other sectors of its unit
  pub unit : ℕ → ℕ
  -- how many calls have failed, and how many of these were writes and syncs: the others were reads
  pub failures : ℕ
  pub failed_orders : ℕ
  -- that the calls so far were those of a device that keeps the device model: the clauses on contents rest on it
  pub keeps_model : Type 0
  -- and that those up to a moment were
  pub kept_until : ℕ → Type 0
  -- the content before the first order
  pub start : List Cell
  -- the writes and syncs that it was told, the newest first
  pub told : List Order
  -- no call fails while fewer than so many orders were told
  pub bears : ℕ → Type 0

abbrev pub cell_at : List Cell → ℕ → Cell
cell_at content sector = slice_index_or content sector None

-- the content with these bytes in the sector
abbrev pub put : List Cell → ℕ → List ℕ → List Cell
put content sector bytes = slice_set content sector (Some bytes)

-- the content with the sector unreadable
abbrev pub lose : List Cell → ℕ → List Cell
lose content sector = slice_set content sector None

-- what a stop, or a write that fails, makes of a content in which the
-- bytes are written: the sector as it was, with the bytes, or unreadable
pub data MayWrite (sector : ℕ) (bytes : List ℕ) (old new : List Cell) : Type 0 where
  left_old : new ≡ old → MayWrite sector bytes old new
  left_new : new ≡ put old sector bytes → MayWrite sector bytes old new
  left_bad : new ≡ lose old sector → MayWrite sector bytes old new

-- The same where sectors are written by units: other sectors of the unit are as they were, or unreadable too, and the rest is as it was.
pub record MayWriteUnit (unit : ℕ → ℕ) (sector : ℕ) (bytes : List ℕ) (old new : List Cell) : Type 0 where
  pub size : length new ≡ length old
  pub own : (cell_at new sector ≡ cell_at old sector) ⊎ ((cell_at new sector ≡ Some bytes) ⊎ (cell_at new sector ≡ None))
  pub beside : (k : ℕ) → unit k ≡ unit sector → (k ≡ sector → ⊥) → (cell_at new k ≡ cell_at old k) ⊎ (cell_at new k ≡ None)
  pub others : (k : ℕ) → (unit k ≡ unit sector → ⊥) → cell_at new k ≡ cell_at old k

-- sectors of one unit by the first are of one unit by the second
abbrev pub LieWithin : (ℕ → ℕ) → (ℕ → ℕ) → Type 0
LieWithin unit within = (j k : ℕ) → unit j ≡ unit k → within j ≡ within k

-- each unit is one sector
abbrev pub AreSectors : (ℕ → ℕ) → Type 0
AreSectors unit = LieWithin unit (λ k. k)

-- a stop leaves this content and nothing else
abbrev pub Only : List Cell → DeviceState → Type 0
Only content d = (c : List Cell) → d.may_leave c → c ≡ content

-- each content that a stop now may leave has P
abbrev pub AllLeft : DeviceState → (List Cell → Type 0) → Type 0
AllLeft d P = (c : List Cell) → d.may_leave c → P c

-- the first orders that were told are these
unfoldable pub IsBeginning : List Order → List Order → Type 0
IsBeginning first [] = first ≡ []
IsBeginning first (order ∷ told) = (first ≡ order ∷ told) ⊎ IsBeginning first told

-- what was told grows at its end: each beginning of it is one still
abbrev pub Grows : List Order → List Order → Type 0
Grows old new = (first : List Order) → IsBeginning first old → IsBeginning first new

-- a call added this order, or nothing
abbrev pub MayTell : Order → List Order → List Order → Type 0
MayTell order old new = (new ≡ order ∷ old) ⊎ (new ≡ old)

-- What holds of each call, and of any run of calls: no sector comes or goes or changes its unit, a device that keeps the model after it
-- kept it before, no failure and no moment is forgotten, and none fails that the device bears.
pub record Carries (old new : DeviceState) : Type 0 where
  pub size : new.size ≡ old.size
  pub kept_before : new.keeps_model → old.keeps_model
  pub unit : new.unit ≡ old.unit
  pub failures : old.failures ≤ new.failures
  pub failed_orders : old.failed_orders ≤ new.failed_orders
  pub failed_reads : old.failures + new.failed_orders ≤ new.failures + old.failed_orders
  pub later : old.moment ≤ new.moment
  pub remembers : (t : ℕ) (c : List Cell) → t ≤ old.moment → old.left_since t c → new.left_since t c
  -- of the past nothing changes
  pub kept_as : (u : ℕ) → u ≤ old.moment → new.kept_until u ↔ old.kept_until u
  pub left_as : (t u : ℕ) (c : List Cell) → u ≤ old.moment → new.left_until t u c ↔ old.left_until t u c
  pub start : new.start ≡ old.start
  pub told : Grows old.told new.told
  pub bears : (n : ℕ) → old.bears n → new.bears n
  pub borne : (n : ℕ) → old.bears n → length new.told < n → new.failures ≡ old.failures

-- What holds of one call: a stop since an earlier moment might have left
-- what it might have left before the call, or what it may leave after it.
abbrev pub Elapses : DeviceState → DeviceState → Type 0
Elapses old new = (t : ℕ) (c : List Cell) → t ≤ old.moment → new.left_since t c → old.left_since t c ⊎ new.may_leave c

-- the content is the same, and a stop leaves nothing that it couldn't leave before
pub record IsUntouched (old new : DeviceState) : Type 0 where
  pub content : new.content ≡ old.content
  pub crash : (c : List Cell) → new.may_leave c → old.may_leave c

-- after a write, done or failed, each content that a stop may leave comes from one that it could leave before
abbrev pub CrashWritesUnit : ℕ → List ℕ → DeviceState → DeviceState → Type 0
CrashWritesUnit sector bytes old new =
    (c : List Cell) → new.may_leave c → (d : List Cell) × old.may_leave d × MayWriteUnit old.unit sector bytes d c

-- and so it does where units are sectors
abbrev pub CrashWrites : ℕ → List ℕ → DeviceState → DeviceState → Type 0
CrashWrites sector bytes old new = (c : List Cell) → new.may_leave c → (d : List Cell) × old.may_leave d × MayWrite sector bytes d c

-- and each that comes so from one that it could leave before, it may leave then
abbrev pub CrashSpreads : ℕ → List ℕ → DeviceState → DeviceState → Type 0
CrashSpreads sector bytes old new = (d c : List Cell) → old.may_leave d → MayWriteUnit old.unit sector bytes d c → new.may_leave c

-- A call that failed: all orders that the device bears were told before.
abbrev pub BearsAll : DeviceState → Type 0
BearsAll d = (n : ℕ) → d.bears n → n ≤ length d.told

-- A device as one of larger units. Where its own don't lie within those, it doesn't keep the model, and no stop leaves anything.
abbrev pub in_units : (ℕ → ℕ) → DeviceState → DeviceState
in_units unit d = record d {
  unit = unit;
  may_leave = λ c. LieWithin d.unit unit × d.may_leave c;
  left_since = λ t c. LieWithin d.unit unit × d.left_since t c;
  left_until = λ t u c. LieWithin d.unit unit × d.left_until t u c;
  keeps_model = LieWithin d.unit unit × d.keeps_model;
  kept_until = λ u. LieWithin d.unit unit × d.kept_until u;
}

-- As one whose units are sectors.
abbrev pub in_sectors : {D : Type 0} → (D → DeviceState) → D → DeviceState
in_sectors state d = in_units (λ k. k) (state d)

-- what holds of each device at each moment
pub record IsLawful (d : DeviceState) : Type 0 where
  pub fits : d.size < 2 ^ 32
  pub size : length d.content ≡ d.size
  pub sizes : (c : List Cell) → d.may_leave c → length c ≡ d.size
  pub now : AllByRecursion IsSector d.content
  pub cells : (c : List Cell) → d.may_leave c → AllByRecursion IsSector c
  -- the present content is one of those that a stop may leave
  pub present : d.keeps_model → d.may_leave d.content
  -- this moment is one of those since an earlier one
  pub counts_now : (t : ℕ) (c : List Cell) → t ≤ d.moment → d.may_leave c → d.left_since t c
  -- since this moment there is no other
  pub only_now : (c : List Cell) → d.left_since d.moment c → d.may_leave c
  -- so it is by what is known of moments up to this one
  pub kept_now : d.kept_until d.moment ↔ d.keeps_model
  pub kept_earlier : (t u : ℕ) → t ≤ u → d.kept_until u → d.kept_until t
  pub until_now : (t : ℕ) (c : List Cell) → t ≤ d.moment → d.left_until t d.moment c ↔ d.left_since t c
  -- a stop since a later moment is one since an earlier one
  pub earlier : (t u : ℕ) (c : List Cell) → t ≤ u → d.left_since u c → d.left_since t c

-- A stop at any moment since old leaves a content that has P.
pub record LeavesOnly (old new : DeviceState) (P : List Cell → Type 0) : Type 0 where
  pub later : old.moment ≤ new.moment
  pub each : (c : List Cell) → new.left_since old.moment c → P c
  -- for a run that began earlier
  pub before : (t : ℕ) (c : List Cell) → t ≤ old.moment → new.left_since t c → old.left_since t c ⊎ P c

-- a content that comes, by such a change, from one that a stop might have left then
abbrev pub ComesFrom : DeviceState → (List Cell → List Cell → Type 0) → List Cell → Type 0
ComesFrom old Changes c = (d : List Cell) × old.may_leave d × Changes d c

-- the same, but for the n sectors from first on
pub record SameOutside (first n : ℕ) (old new : List Cell) : Type 0 where
  pub size : length new ≡ length old
  pub before : (k : ℕ) → k < first → cell_at new k ≡ cell_at old k
  pub after : (k : ℕ) → first + n ≤ k → cell_at new k ≡ cell_at old k

-- What a stop leaves behind a beginning of the orders, and behind orders that are carried out in the place of others: the laws.
-- All of it is an own choice: it is what a caller who carries orders out is promised.
use Rattle.std.specs.Prelude.{◌≡◌, ◌⊎◌, ◌↔◌, ◌≤◌, ◌==◌, ℕ, cond, Option, Some, None, List, [], ◌∷◌, ◌++◌, length}
use Rattle.lfs_model.specs.Device.{Cell, IsBeginning}
use Rattle.lfs_model.specs.declared.Order.{Order}
use Rattle.lfs_model.specs.declared.Order.TheVariants.{Write, Sync}
use Rattle.lfs_queue.specs.Orders.{LeftSince, MayLeave, content_after}

-- ---- a beginning

-- What a stop leaves behind a beginning of the orders, it leaves since each moment at which no more of them were told.
abbrev pub StopsAreBehind : Type 0
StopsAreBehind = (unit : ℕ → ℕ) (start : List Cell) (told first : List Order) (t : ℕ) (c : List Cell) → IsBeginning first told
    → t ≤ length first → MayLeave unit start first c → LeftSince unit start told t c

-- So does what one leaves since such a moment behind a beginning.
abbrev pub MomentsAreBehind : Type 0
MomentsAreBehind = (unit : ℕ → ℕ) (start : List Cell) (told first : List Order) (t u : ℕ) (c : List Cell) → IsBeginning first told
    → t ≤ u → LeftSince unit start first u c → LeftSince unit start told t c

-- ---- another sequence: the newest first

abbrev pub AreWrites : List Order → Type 0
AreWrites [] = Unit {0}
AreWrites (Write sector bytes ∷ orders) = AreWrites orders
AreWrites (Sync ∷ orders) = ⊥

abbrev pub IsOneOf : Order → List Order → Type 0
IsOneOf order [] = ⊥
IsOneOf order (first ∷ orders) = (order ≡ first) ⊎ IsOneOf order orders

-- each of these is one of those
abbrev pub AreAmong : List Order → List Order → Type 0
AreAmong some all = (order : Order) → IsOneOf order some → IsOneOf order all

-- the bytes of the last write to a sector, if there is one
abbrev pub last_bytes : List Order → ℕ → Option (List ℕ)
last_bytes [] sector = None
last_bytes (Write at bytes ∷ orders) sector = cond (sector == at) (Some bytes) (last_bytes orders sector)
last_bytes (Sync ∷ orders) sector = last_bytes orders sector

-- These are writes, and each of them is one of those: in any sequence, and not each of those need be there.
pub record AreWritesOf (done told : List Order) : Type 0 where
  pub writes : AreWrites done
  pub told_writes : AreWrites told
  pub among : AreAmong done told

-- So many of them that the last to each sector is there.
pub record AreEnoughOf (done told : List Order) : Type 0 where
  pub are : AreWritesOf done told
  pub last : (sector : ℕ) → last_bytes done sector ≡ last_bytes told sector

-- These were carried out where those were told, up to a sync: from one sync to the next the last write to each sector, in any sequence.
pub data AreSyncedFor : List Order → List Order → Type 0 where
  none : AreSyncedFor [] []
  synced : {done told : List Order} (writes others : List Order) → AreEnoughOf writes others → AreSyncedFor done told
      → AreSyncedFor (Sync ∷ (writes ++ done)) (Sync ∷ (others ++ told))

-- And behind that sync some of the writes that were told behind it.
pub data AreDoneFor : List Order → List Order → Type 0 where
  are_done : {done told : List Order} (writes others : List Order) → AreWritesOf writes others → AreSyncedFor done told
      → AreDoneFor (writes ++ done) (others ++ told)

-- Of writes one after the other, with no sync between them, a stop leaves the same in any sequence, whatever the units are.
abbrev pub AnySequenceLeaves : Type 0
AnySequenceLeaves = (unit : ℕ → ℕ) (start : List Cell) (writes others told : List Order) → AreWritesOf writes others
    → AreWritesOf others writes → (c : List Cell) → MayLeave unit start (writes ++ told) c ↔ MayLeave unit start (others ++ told) c

-- Of some of them it leaves nothing else.
abbrev pub FewerLeaveNoMore : Type 0
FewerLeaveNoMore = (unit : ℕ → ℕ) (start : List Cell) (writes others told : List Order) → AreWritesOf writes others
    → (c : List Cell) → MayLeave unit start (writes ++ told) c → MayLeave unit start (others ++ told) c

-- Where the last write to each sector is there, they make the same of the content.
abbrev pub LastIsEnough : Type 0
LastIsEnough = (start : List Cell) (writes others told : List Order) → AreEnoughOf writes others
    → content_after start (writes ++ told) ≡ content_after start (others ++ told)

-- So a stop behind orders that were carried out where others were told leaves what one behind those may leave.
abbrev pub DoneLeavesTold : Type 0
DoneLeavesTold = (unit : ℕ → ℕ) (start : List Cell) (done told : List Order) → AreDoneFor done told
    → (c : List Cell) → MayLeave unit start done c → MayLeave unit start told c

-- and orders as they were told are among these
abbrev pub ToldAreDone : Type 0
ToldAreDone = (told : List Order) → AreDoneFor told told

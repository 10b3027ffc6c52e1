-- What a stop leaves of the device that carries out the orders of a volume's calls, and what it keeps of the calls. It is an own choice.
use Rattle.std.specs.Prelude.{◌≡◌, ◌⊎◌, ◌≤◌, ℕ, Some, List, [], ◌∷◌, ◌++◌, length, slice_get, take}
use Rattle.lfs_model.specs.Call.{Answer, Call}
use Rattle.lfs_model.specs.Content.{Content}
use Rattle.lfs_model.specs.Device.{AllLeft, AreSectors, DeviceState, IsBeginning, LeavesOnly, in_sectors}
use Rattle.lfs_model.specs.Run.{Point}
use Rattle.lfs_model.specs.Since.{StandsFrom}
use Rattle.lfs_model.specs.declared.Order.{Order}
use Rattle.lfs_model.specs.declared.Order.TheVariants.{Sync}
use Rattle.lfs_queue.specs.Carrying.{IsAsTold, IsCarried, IsCarriedUpTo}
use Rattle.lfs_queue.specs.Orders.{MayLeave, onto}
use Rattle.lfs_queue.specs.Queue.{queue_state, start_of, told_of}
use Rattle.lfs_queue.specs.Stops.{AreDoneFor, AreEnoughOf, AreSyncedFor, AreWritesOf}
use Rattle.lfs_queue.specs.declared.queue.QueueDevice.{QueueDevice}

-- A device that was told orders by calls of a volume. Clocks are how many were told before the first call, and by each answer.
module _ (device : QueueDevice) (clocks : List ℕ) where
  -- These are a beginning of the orders, and hold those that were told by the i-th clock.
  pub record HoldsTold (first : List Order) (i : ℕ) : Type 0 where
    pub clock : ℕ
    pub at : slice_get clocks i ≡ Some clock
    pub begins : IsBeginning first (told_of device)
    pub long : clock ≤ length first

  -- Such orders are done, or others in their place.
  pub record IsDoneBy (done : List Order) (i : ℕ) : Type 0 where
    pub first : List Order
    pub instead : AreDoneFor done first
    pub told : HoldsTold first i

  -- While these orders come next, behind those that are done, such orders are done at any moment.
  abbrev pub IsDoneMeanwhile : List Order → List Order → ℕ → Type 0
  IsDoneMeanwhile done orders i = (now : List Order) → IsBeginning now (onto orders done) → length done ≤ length now → IsDoneBy now i

  -- So it is of orders in the sequence in which they were told;
  abbrev pub ToldComeNext : Type 0
  ToldComeNext = (i : ℕ) (first orders : List Order) → HoldsTold first i → IsBeginning (onto orders first) (told_of device)
      → IsDoneMeanwhile first orders i

  -- of writes in any sequence, behind a sync and others of these, and as far as the next sync;
  abbrev pub WritesComeNext : Type 0
  WritesComeNext = (i : ℕ) (done told before writes others : List Order) → AreSyncedFor done told → AreWritesOf before others
      → AreWritesOf writes others → HoldsTold (others ++ told) i → IsDoneMeanwhile (before ++ done) writes i

  -- and of that sync, once the last write to each sector is there.
  abbrev pub SyncComesNext : Type 0
  SyncComesNext = (i : ℕ) (done told writes others : List Order) → AreSyncedFor done told → AreEnoughOf writes others
      → HoldsTold (others ++ told) i → IsBeginning (Sync ∷ (others ++ told)) (told_of device)
      → IsDoneMeanwhile (writes ++ done) (Sync ∷ []) i

  -- These orders come so to a device that keeps the model, behind those that are done on it.
  pub record ComeNext (old new : DeviceState) (orders : List Order) (i : ℕ) : Type 0 where
    pub done : List Order
    pub as_told : IsAsTold (λ k. k) (start_of device) done old
    pub meanwhile : IsDoneMeanwhile done orders i
    pub sectors : AreSectors new.unit
    pub keeps : new.keeps_model

-- How orders may come next.
pub record MayComeNext (device : QueueDevice) (clocks : List ℕ) : Type 0 where
  pub told : ToldComeNext device clocks
  pub writes : WritesComeNext device clocks
  pub sync : SyncComesNext device clocks

abbrev pub OrdersMayCome : Type 0
OrdersMayCome = (device : QueueDevice) (clocks : List ℕ) → MayComeNext device clocks

-- The calls are those of a volume that has this of a content of the device.
module _ (device : QueueDevice) (shown : Content → Content) (points : List Point) (calls : List Call) (answers : List Answer)
    (clocks : List ℕ) where
  -- As contracts say it of the device of orders: a stop at any moment since the i-th clock leaves the state behind every call of the
  -- first i that was acknowledged, or a later one.
  abbrev pub KeepsSince : Type 0
  KeepsSince = (i t : ℕ) → slice_get clocks i ≡ Some t → (c : Content) → (in_sectors queue_state device).left_since t c
      → StandsFrom points calls answers i (shown c)

  -- A stop leaves such a state once the orders are done that were told by that clock.
  abbrev pub KeepsDone : Type 0
  KeepsDone = (i : ℕ) (done : List Order) → IsDoneBy device clocks done i → (c : Content) → MayLeave (λ k. k) (start_of device) done c
      → StandsFrom points calls answers i (shown c)

  -- the same of the first sectors of a longer device, as many as the image has
  abbrev pub StandsFirst : ℕ → Content → Type 0
  StandsFirst i c = StandsFrom points calls answers i (shown (take (length (start_of device)) c))

  -- A device on which they are done leaves such contents,
  abbrev pub KeepsOn : DeviceState → Type 0
  KeepsOn d = (i : ℕ) (done : List Order) → IsDoneBy device clocks done i → IsAsTold (λ k. k) (start_of device) done d
      → AllLeft d (StandsFirst i)

  -- and at any moment while further orders are carried out, up to one that fails.
  abbrev pub KeepsMeanwhile : DeviceState → DeviceState → Type 0
  KeepsMeanwhile old new = (i : ℕ) (orders : List Order) → ComeNext device clocks old new orders i
      → IsCarried old new orders ⊎ IsCarriedUpTo old new orders → LeavesOnly old new (StandsFirst i)

-- What contracts say of the device of orders is so of orders that are done,
abbrev pub SinceIsDone : Type 0
SinceIsDone = (device : QueueDevice) (shown : Content → Content) (points : List Point) (calls : List Call) (answers : List Answer)
    (clocks : List ℕ) → KeepsSince device shown points calls answers clocks → KeepsDone device shown points calls answers clocks

-- and of the device that they are done on.
abbrev pub DoneIsOn : DeviceState → Type 0
DoneIsOn d = (device : QueueDevice) (shown : Content → Content) (points : List Point) (calls : List Call) (answers : List Answer)
    (clocks : List ℕ) → KeepsDone device shown points calls answers clocks → KeepsOn device shown points calls answers clocks d

abbrev pub DoneMeanwhile : DeviceState → DeviceState → Type 0
DoneMeanwhile old new = (device : QueueDevice) (shown : Content → Content) (points : List Point) (calls : List Call)
    (answers : List Answer) (clocks : List ℕ) → KeepsDone device shown points calls answers clocks
    → KeepsMeanwhile device shown points calls answers clocks old new

-- A queue device as contracts see it.
use Rattle.std.specs.Prelude.{◌≡◌, ◌≤◌, ◌+◌, ℕ, List, [], length, vec_capacity}
use Rattle.lfs_model.specs.Device.{Cell, DeviceState}
use Rattle.lfs_queue.specs.Orders.{onto, done_of, count, queue_state_of}
use Rattle.lfs_model.specs.declared.Order.{Order}
use Rattle.lfs_queue.specs.declared.queue.QueueDevice.{QueueDevice}

-- what the real device held before the first order
abbrev pub start_of : QueueDevice → List Cell
start_of d = d.start.value.items

-- the orders that wait, the oldest first
abbrev pub due_of : QueueDevice → List Order
due_of d = d.queue.items

-- how many orders may wait before more memory is asked for
abbrev pub room_of : QueueDevice → ℕ
room_of d = vec_capacity d.queue

-- the orders that were carried out, the newest first
abbrev pub carried_of : QueueDevice → List Order
carried_of d = done_of d.done.value

-- all orders, the newest first
abbrev pub told_of : QueueDevice → List Order
told_of d = onto (due_of d) (carried_of d)

-- how many orders it bears: those that were carried out, and as many as may wait then
abbrev pub borne_by : QueueDevice → ℕ
borne_by d = length (carried_of d) + room_of d

-- its units are sectors, and each call of it that fails is a write or a sync
abbrev pub queue_state : QueueDevice → DeviceState
queue_state d = queue_state_of (λ k. k) d.sectors (start_of d) (told_of d) (count d.failed.value) (borne_by d)

-- all orders that waited were carried out, none more has failed, and there is room for as many more
pub record IsEmptied (old new : QueueDevice) : Type 0 where
  pub due : due_of new ≡ []
  pub carried : carried_of new ≡ onto (due_of old) (carried_of old)
  pub start : start_of new ≡ start_of old
  pub failures : (queue_state new).failures ≡ (queue_state old).failures
  pub room : room_of new ≡ room_of old

-- it holds what it held, and was told what it was told, and there is no less room
pub record IsRoomier (old new : QueueDevice) : Type 0 where
  pub size : new.sectors ≡ old.sectors
  pub start : start_of new ≡ start_of old
  pub due : due_of new ≡ due_of old
  pub carried : carried_of new ≡ carried_of old
  pub failures : (queue_state new).failures ≡ (queue_state old).failures
  pub room : room_of old ≤ room_of new

-- How many orders the parts of a commit give the device.
use Rattle.std.specs.Prelude.{◌+◌, ℕ, length}
use Rattle.lfs_model.specs.Device.{DeviceState}
use Rattle.lfs_memory.specs.segments.Chunk.{due_in}
use Rattle.lfs_memory.specs.segments.Table.{clean_in}
use Rattle.lfs_memory.specs.declared.memory.LogMemory.{LogMemory}

-- The orders so far, with those for summaries that may come: of the chunk that has begun or may begin behind the last, and one for
-- each clean segment.
abbrev pub orders_due : DeviceState → LogMemory → ℕ
orders_due d v = length d.told + due_in v.chunk v.usage + clean_in v.usage.segments

-- How many segments a commit takes, by the blocks that it places.
use Rattle.std.proofs.Common.{◌≡◌, ◌≤◌, ◌+◌, ◌*◌, ℕ, [], length, ap, arith}
use Rattle.std.proofs.Common.{inl, inr}
use Rattle.lfs_segments.specs.Table.{clean_in}
use Rattle.lfs_segments.specs.Chunk.{room_in}
use Rattle.lfs_memory.specs.declared.memory.LogMemory.{LogMemory}
use Rattle.lfs_memory.specs.Memory.{room_of}
use Rattle.lfs_memory.proofs.Begun.{zero_or_more}
use Rattle.lfs_memory.proofs.Rooms.{room_none, room_some}

-- Begun with no chunk, a commit of so many blocks takes no more segments than these blocks fill.
pub segments_taken : (v v' : LogMemory) (placed most : ℕ) → v.chunk.names ≡ [] → room_of v ≤ room_of v' + placed → placed ≤ 63 * most
    → clean_in v.usage.segments ≤ clean_in v'.usage.segments + most
segments_taken v v' placed most closed room fits =
    let none = room_none v.chunk (ap length closed) in
    let few : room_in v'.chunk ≤ 62 = elim (zero_or_more (length v'.chunk.names)) [
      | inl z ↦ omega (arith, room_none v'.chunk z)
      | inr some ↦ omega (arith, room_some v'.chunk some)
    ] in
    omega arith

-- There is room for them where so many segments are clean.
pub room_there : (v : LogMemory) (placed most : ℕ) → placed ≤ 63 * most → most ≤ clean_in v.usage.segments → placed ≤ room_of v
room_there v placed most fits clean = omega arith

use Rattle.std.proofs.Common.{◌≡◌, length, ap}
use Rattle.lfs_memory.proofs.memory.LogMemory.next_place.Goals as goal
use Rattle.lfs_memory.proofs.Rooms.{has_clean, some_taken}

-- src/memory.rt:28:13
pub unwrap-requires : goal.unwrap-requires
unwrap-requires c =
    let none : length c.args.self.now.chunk.names ≡ 0 = ap length (c.is_empty.ensures.yes c.if-is_empty.true) in
    some_taken c.begin.result c.args.self.now.usage.segments c.begin.ensures.none (has_clean c.args.self.now c.requires.room none)

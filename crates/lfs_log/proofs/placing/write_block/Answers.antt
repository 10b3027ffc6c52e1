use Rattle.lfs_log.proofs.LeftMemory.{leaves_memory}
use Rattle.std.proofs.Common.{rules, ◌≡◌, ◌∙◌, ◌+◌, ◌/◌, ◌%◌, ap, sym, arith, not, Some}
use Rattle.lfs_model.specs.Memory.{file_of}
use Rattle.lfs_memory.specs.segments.Table.{UsageTable}
use Rattle.lfs_memory.specs.segments.Early.{early_in}
use Rattle.lfs_log.proofs.EarlyBlocks.{begun_same, placed_early, placed_fresh}
use Rattle.lfs_memory.specs.inodes.Blocks.{TableValue, blocks_of}
use Rattle.lfs_memory.specs.inodes.Data.{data_count}
use Rattle.lfs_memory.specs.inodes.Key.{entry_of}
use Rattle.lfs_log.proofs.placing.write_block.Goals as goal
use Rattle.lfs_log.proofs.SavedBlocks.{writing_done, writing_failed}
use Rattle.lfs_memory.proofs.Rooms.{takes_place}
use Rattle.lfs_memory.proofs.Spared.{placed_spares}
use Rattle.lfs_log.proofs.StaysCleanable.{placed_cleanable}
use Rattle.lfs_memory.proofs.FileSteps.{place_stops, file_goes, file_moves, file_by, goes_to, moves_to}

pub returns-in_err-write-clause-writes : goal.returns-in_err-write-clause-writes
returns-in_err-write-clause-writes g c =
    writing_failed _ _ c.from_residual.ensures (place_stops c.requires.memory c.next_place-address.ensures.placed
    c.in_err-write.ensures.crash c.in_err-write.ensures.asks.carries c.in_err-write.ensures.asks.time
    (g.met.D.SectorDevice.lawful c.args.device.now)
    c.in_err-write.ensures.failed_write c.in_err-write.ensures.asks.failed_order) (let room = takes_place
    c.requires.memory c.next_place-address.ensures.placed in
    omega (arith, room)) (search rules)

pub returns-clause-writes : goal.returns-clause-writes
returns-clause-writes g c =
    let x = entry_of c.args.key in
    let file : file_of x ≡ Some c.file.result = file_by (c.args.key.code / 134217728) (c.args.key.code / 32768 % 4096)
    (c.args.key.code % 32768) ∙ ap Some (sym c.file.ensures.file) in
    let shown : blocks_of c.next_place-address.new.self.dirty x ≡ Some c.unwrap-bytes.result.now = search rules in
    let there = sym (ap (λ (t : TableValue). blocks_of t x) c.next_place-address.ensures.placed.dirty) ∙ shown in
    let few = c.file.ensures.few in
    writing_done (goes_to 63 c.point.new.self 1 c.point.ensures.usage c.point.ensures.dirty c.point.ensures.chunk (file_goes
    c.requires.memory c.next_place-address.ensures.placed
    x file (rw (← c.next_place-address.ensures.placed.map) c.point.ensures.points) c.unwrap-bytes.result.now c.moved.new.self
    c.in_ok-write.ensures.crash c.in_ok-write.ensures.asks.carries c.in_ok-write.ensures.asks.time
    (g.met.D.SectorDevice.lawful c.args.device.now)
    c.in_ok-write.ensures.written c.name.ensures.entry c.requires.lowest there (rw (← c.next_place-address.ensures.placed.dirty)
    c.moved.ensures.moves) (omega (arith, few)) (ap not c.is_hidden-lives.ensures) (c.moved.ensures.capacity
    ∙ ap (λ (t : TableValue). t.capacity) c.next_place-address.ensures.placed.dirty) c.in_ok-write.ensures.asks.no_failure))
    (search rules)

pub returns-clause-fresh : goal.returns-clause-fresh
returns-clause-fresh g c fresh =
    begun_same c.next_place-address.new.self c.point.new.self c.point.ensures.usage c.point.ensures.chunk
    (placed_fresh c.args.memory.now c.next_place-address.new.self c.name.result
    (not c.is_hidden-lives.result) c.args.age c.next_place-address.result fresh c.next_place-address.ensures.placed)

pub returns-clause-early : goal.returns-clause-early
returns-clause-early g c fresh =
    ap (λ (u : UsageTable). early_in u.segments) c.point.ensures.usage
    ∙ placed_early c.args.memory.now c.next_place-address.new.self c.name.result
    (not c.is_hidden-lives.result) c.args.age c.next_place-address.result fresh c.next_place-address.ensures.placed

pub returns-clause-data_blocks : goal.returns-clause-data_blocks
returns-clause-data_blocks g c kind =
    let shown : blocks_of c.next_place-address.new.self.dirty (entry_of c.args.key) ≡ Some c.unwrap-bytes.result.now = search rules in
    ap (λ (t : TableValue). data_count t + 1) c.point.ensures.dirty
    ∙ c.moved.ensures.data_blocks c.unwrap-bytes.result.now shown kind
    ∙ ap data_count c.next_place-address.ensures.placed.dirty

pub returns-clause-cleanable : goal.returns-clause-cleanable
returns-clause-cleanable g c =
    placed_cleanable c.point.new.self c.requires.memory c.next_place-address.ensures.placed c.point.ensures.usage c.point.ensures.chunk

pub returns-clause-spares : goal.returns-clause-spares
returns-clause-spares g c =
    placed_spares (g.D.SectorDevice.state c.args.device.now) (g.D.SectorDevice.state c.write.new.device) c.point.new.self
    c.unwrap-bytes.result.now c.requires.memory c.next_place-address.ensures.placed c.point.ensures.usage c.point.ensures.chunk
    c.in_ok-write.ensures.written

pub returns-clause-moves : goal.returns-clause-moves
returns-clause-moves g c =
    let x = entry_of c.args.key in
    let file : file_of x ≡ Some c.file.result = file_by (c.args.key.code / 134217728) (c.args.key.code / 32768 % 4096)
    (c.args.key.code % 32768) ∙ ap Some (sym c.file.ensures.file) in
    let shown : blocks_of c.next_place-address.new.self.dirty x ≡ Some c.unwrap-bytes.result.now = search rules in
    let there = sym (ap (λ (t : TableValue). blocks_of t x) c.next_place-address.ensures.placed.dirty) ∙ shown in
    let few = c.file.ensures.few in
    moves_to c.point.new.self x c.point.ensures.usage c.point.ensures.dirty c.point.ensures.chunk (file_moves
    c.requires.memory c.next_place-address.ensures.placed
    x file (rw (← c.next_place-address.ensures.placed.map) c.point.ensures.points) c.unwrap-bytes.result.now c.moved.new.self
    c.in_ok-write.ensures.crash c.in_ok-write.ensures.asks.carries c.in_ok-write.ensures.asks.time
    (g.met.D.SectorDevice.lawful c.args.device.now)
    c.in_ok-write.ensures.written c.name.ensures.entry c.requires.lowest there (rw (← c.next_place-address.ensures.placed.dirty)
    c.moved.ensures.moves) (omega (arith, few)) (ap not c.is_hidden-lives.ensures))

pub returns-clause-out : goal.returns-clause-out
returns-clause-out g c =
    leaves_memory (entry_of c.args.key) c.next_place-address.result c.next_place-address.ensures.placed.dirty c.point.ensures.dirty
    c.moved.ensures.moves

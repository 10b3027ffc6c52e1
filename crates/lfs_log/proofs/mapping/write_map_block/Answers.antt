use Rattle.std.proofs.Common.{rules, refl, ap, arith}
use Rattle.lfs_memory.specs.inodes.MapValue.{MapValue}
use Rattle.lfs_memory.specs.Memory.{IsBlockAt}
use Rattle.lfs_log.proofs.mapping.write_map_block.Goals as goal
use Rattle.lfs_memory.proofs.Rooms.{takes_place}
use Rattle.lfs_memory.proofs.FileSteps.{place_stops}
use Rattle.lfs_log.proofs.SavedBlocks.{writing_done, writing_failed}
use Rattle.lfs_log.proofs.MapSteps.{map_goes, placed_map}

-- src/mapping.rt:44:9
pub next_place-address-requires-clause-placed : goal.next_place-address-requires-clause-placed
next_place-address-requires-clause-placed g c = placed_map _ c.requires.index

pub returns-in_err-write-clause-writes : goal.returns-in_err-write-clause-writes
returns-in_err-write-clause-writes g c =
    writing_failed _ _ c.from_residual.ensures (place_stops c.requires.memory c.next_place-address.ensures.placed
    c.in_err-write.ensures.crash c.in_err-write.ensures.asks.carries c.in_err-write.ensures.asks.time
    (g.met.D.SectorDevice.lawful c.args.device.now)
    c.in_err-write.ensures.failed_write c.in_err-write.ensures.asks.failed_order) (let room = takes_place
    c.requires.memory c.next_place-address.ensures.placed in omega (arith, room)) (search rules)

pub returns-clause-writes : goal.returns-clause-writes
returns-clause-writes g c =
    let map' = c.set_block_address.new.self in
    let v = c.args.memory.now in
    let same = c.next_place-address.ensures.placed.map in
    let sets : IsBlockAt v.map map' c.args.index c.next_place-address.result =
    rw (← same) (record {
      block = c.set_block_address.ensures.changed;
      addresses = ap (λ (a : MapValue). a.addresses) c.set_block_address.ensures.set;
      hidden = ap (λ (a : MapValue). a.hidden) c.set_block_address.ensures.set;
    }) in
    writing_done (rw c.next_place-address.ensures.placed.dirty (map_goes v _ c.requires.memory c.next_place-address.ensures.placed map' sets
    c.in_ok-write.ensures.crash c.in_ok-write.ensures.asks.carries c.in_ok-write.ensures.asks.time
    (g.met.D.SectorDevice.lawful c.args.device.now)
    c.in_ok-write.ensures.written refl c.requires.wanted c.requires.spelt c.requires.empty c.in_ok-write.ensures.asks.no_failure))
    (search rules)

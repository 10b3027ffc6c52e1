use Rattle.std.proofs.Common.{rules, ◌≡◌, true}
use Rattle.lfs_memory.specs.segments.Table.{address_of, stale_of}
use Rattle.lfs_memory.proofs.Going.{goes_none, on_err}
use Rattle.lfs_log.proofs.UsageWrites.{fill_goes_at, write_stops_at}
use Rattle.lfs_log.proofs.settling.fill_block.Goals as goal

pub returns-then-not-place-clause-done : goal.returns-then-not-place-clause-done
returns-then-not-place-clause-done g c =
    goes_none _ (g.met.D.SectorDevice.lawful c.args.device.now) c.requires.memory

pub returns-clause-done : goal.returns-clause-done
returns-clause-done g c =
    let stale : stale_of c.args.memory.now.usage c.args.index ≡ true = search rules in
    let at : address_of c.args.memory.now.usage c.args.index ≡ c.place.inside.address = search rules in
    let e = c.in_ok-write.ensures in
    fill_goes_at c.args.memory.now c.requires.memory (c.requires.anew c.args.index c.requires.index stale) c.requires.closed
    at c.set_block.ensures
    (g.D.SectorDevice.state c.args.device.now) (g.D.SectorDevice.state c.write.new.device) c.spelled-bytes.result.now
    c.spelled-bytes.ensures (g.met.D.SectorDevice.lawful c.args.device.now)
    e.written e.crash e.asks.no_failure e.asks.carries e.asks.time

pub returns-in_err-write-clause-stopped : goal.returns-in_err-write-clause-stopped
returns-in_err-write-clause-stopped g c =
    let stale : stale_of c.args.memory.now.usage c.args.index ≡ true = search rules in
    let at : address_of c.args.memory.now.usage c.args.index ≡ c.place.inside.address = search rules in
    let e = c.in_err-write.ensures in
    on_err _ _ (write_stops_at c.args.memory.now c.args.index
    (g.met.D.SectorDevice.lawful c.args.device.now) (c.requires.anew c.args.index c.requires.index stale) at e.failed_write e.crash
    e.asks.failed_order
    e.asks.carries e.asks.time)

use Rattle.std.proofs.Common.{refl}
use Rattle.lfs_log.proofs.placing.seal.Goals as goal
use Rattle.lfs_memory.proofs.Going.{on_err}
use Rattle.lfs_memory.proofs.Spared.{sealed_spares}
use Rattle.lfs_log.proofs.StaysCleanable.{sealed_cleanable}
use Rattle.lfs_log.proofs.Sealed.{seal_goes, seal_stays, seal_stops}

-- src/placing.rt:20:5
pub returns-in_err-seal-clause-stopped : goal.returns-in_err-seal-clause-stopped
returns-in_err-seal-clause-stopped g c =
    on_err c.from_residual.result _ (seal_stops c.requires.memory c.requires.begun
    (g.met.D.SectorDevice.lawful c.args.device.now) c.in_err-seal.ensures.entries c.in_err-seal.ensures.crash
    c.in_err-seal.ensures.asks.carries
    c.in_err-seal.ensures.asks.time
    c.in_err-seal.ensures.failed_write c.in_err-seal.ensures.asks.failed_order)

-- src/placing.rt:9:1
pub returns-clause-done : goal.returns-clause-done
returns-clause-done g c =
    seal_goes c.requires.memory c.requires.begun
    (g.met.D.SectorDevice.lawful c.args.device.now) c.in_ok-seal.ensures.entries c.in_ok-seal.ensures.crash
    c.in_ok-seal.ensures.asks.carries
    c.in_ok-seal.ensures.asks.time
    c.requires.ends c.seal.new.self c.in_ok-seal.ensures.ended c.in_ok-seal.ensures.asks.no_failure c.in_ok-seal.ensures.written

pub returns-clause-cleanable : goal.returns-clause-cleanable
returns-clause-cleanable g c =
    sealed_cleanable (record c.args.memory.now { chunk = c.seal.new.self }) c.requires.memory c.requires.begun refl
    c.seal.ensures.place.segment

pub returns-clause-spares : goal.returns-clause-spares
returns-clause-spares g c =
    sealed_spares (g.D.SectorDevice.state c.args.device.now) (g.D.SectorDevice.state c.seal.new.device) c.seal.new.self
    c.requires.memory c.requires.begun c.in_ok-seal.ensures.ended c.in_ok-seal.ensures.written

pub returns-clause-stays : goal.returns-clause-stays
returns-clause-stays g c =
    seal_stays c.requires.memory c.requires.begun
    (g.met.D.SectorDevice.lawful c.args.device.now) c.in_ok-seal.ensures.entries c.in_ok-seal.ensures.crash
    c.in_ok-seal.ensures.asks.carries
    c.in_ok-seal.ensures.asks.time
    c.requires.ends c.seal.new.self c.in_ok-seal.ensures.ended c.in_ok-seal.ensures.asks.no_failure c.in_ok-seal.ensures.written

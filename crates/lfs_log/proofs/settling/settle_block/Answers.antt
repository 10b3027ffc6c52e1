use Rattle.std.proofs.Common.{rules, subst, sym, arith}
use Rattle.lfs_memory.specs.segments.Table.{UsageTable}
use Rattle.lfs_model.proofs.Moments.{carries_none}
use Rattle.lfs_log.specs.Settling.{IsResettled}
use Rattle.lfs_log.proofs.SavedBlocks.{saving_failed, saving_from}
use Rattle.lfs_log.proofs.UsageMoves.{all_ok, not_there, resettled_memory, resettled_room, resettled_goes, resettled_stops, resettled_usage}
use Rattle.lfs_log.proofs.settling.settle_block.Goals as goal

pub returns-in_err-resettle-clause-saves : goal.returns-in_err-resettle-clause-saves
returns-in_err-resettle-clause-saves g c =
    let d = g.D.SectorDevice.state c.args.device.now in
    saving_failed _ c.from_residual.ensures (record {
      stops = not_there d c.requires.index c.in_err-resettle.ensures.nowhere (carries_none {d = d});
      room = search rules;
      tells = search rules;
    })

pub seal_full-requires-clause-memory : goal.seal_full-requires-clause-memory
seal_full-requires-clause-memory g c = resettled_memory c.args.memory.now c.resettle.new.memory c.args.index c.args.age c.requires.memory
    c.requires.stale c.in_ok-resettle.ensures.done

pub returns-clause-saves : goal.returns-clause-saves
returns-clause-saves g c =
    let d = g.D.SectorDevice.state c.args.device.now in
    let d' = g.D.SectorDevice.state c.seal_full.new.device in
    let v = c.args.memory.now in
    let middle = c.resettle.new.memory in
    let is = c.in_ok-resettle.ensures.done in
    let due = c.in_ok-resettle.ensures.due in
    saving_from (λ one. record {
      goes = resettled_goes v middle c.args.index c.args.age c.requires.memory c.requires.stale is d d' c.seal_full.new.memory one.goes;
      tells = let told = one.tells in omega (arith, due, told);
    }) (λ one. record {
      stops = resettled_stops v middle c.args.index c.args.age c.requires.memory c.requires.stale is d one.stops;
      room =
          let first = resettled_room v middle c.args.index c.args.age c.requires.memory c.requires.stale is in
          let then' = one.room in
          omega (arith, first, then');
      tells = let told = one.tells in omega (arith, due, told);
    }) c.seal_full.ensures.saves

pub returns-clause-moved : goal.returns-clause-moved
returns-clause-moved g c =
    all_ok _ _ (subst (λ (u : UsageTable). IsResettled c.args.memory.now.usage u c.args.index) (sym c.seal_full.ensures.only.usage)
    (resettled_usage c.args.memory.now c.resettle.new.memory c.args.index c.args.age c.requires.memory c.requires.stale
    c.in_ok-resettle.ensures.done))

use Rattle.std.proofs.Common.{◌∙◌, refl, arith}
use Rattle.lfs_log.proofs.SavedBlocks.{saves_at_most, saves_none, saves_then, saving_at_most, saving_done, saving_failed, stops_behind}
use Rattle.lfs_log.proofs.UsageCounts.{out_most, out_none, out_less}
use Rattle.lfs_log.proofs.settling.settle_usage.Goals as goal

pub loop-round-init : goal.loop-round-init
loop-round-init g c =
    let few = out_most c.args.memory.now.usage in
    record {
      saves = saves_none (g.met.D.SectorDevice.lawful c.args.device.now) c.requires.memory;
      left = omega arith;
      map = refl;
      dirty = refl;
    }

pub returns-in_err-settle_block-clause-saves : goal.returns-in_err-settle_block-clause-saves
returns-in_err-settle_block-clause-saves g c =
    let lt = c.loop-round-test.true in
    saving_failed _ c.from_residual.ensures (saving_at_most _ _ (omega (arith, lt)) (omega arith)
    (stops_behind c.loop-round.invariant.saves c.in_err-settle_block.ensures.saves.stopped))

pub loop-round-preserved : goal.loop-round-preserved
loop-round-preserved g c =
    let few = c.loop-round.invariant.saves.goes.memory.count.most in
    let found = c.in-Some.ensures.some in
    let low = found.0 in
    let less = out_less found.2 c.in_ok-settle_block.ensures.moved (omega arith) in
    let left = c.loop-round.invariant.left in
    record {
      saves = saves_then c.loop-round.invariant.saves c.in_ok-settle_block.ensures.saves.done;
      left = omega arith;
      map = c.settle_block.ensures.only.map ∙ c.loop-round.invariant.map;
      dirty = c.settle_block.ensures.only.dirty ∙ c.loop-round.invariant.dirty;
    }

pub returns-clause-anew : goal.returns-clause-anew
returns-clause-anew g c =
    let few = c.loop-round.invariant.saves.goes.memory.count.most in
    let left = c.loop-round.invariant.left in
    out_none c.loop-round.memory.usage (omega arith) (omega arith)

pub returns-in_default-clause-saves : goal.returns-in_default-clause-saves
returns-in_default-clause-saves g c =
    let lt = c.loop-round-test.true in
    saving_done (saves_at_most _ _ (omega (arith, lt)) (omega arith) c.loop-round.invariant.saves)

pub returns-clause-saves : goal.returns-clause-saves
returns-clause-saves g c = saving_done (saves_at_most _ _ (omega arith) (omega arith) c.loop-round.invariant.saves)

use Rattle.std.proofs.Common.{◌∙◌, refl, arith}
use Rattle.lfs_memory.proofs.Going.{goes_none, goes_then, stops_then, on_err}
use Rattle.lfs_log.proofs.UsageWrites.{filled_fresh, filled_anew}
use Rattle.lfs_log.proofs.settling.fill_usage.Goals as goal

pub loop-index-init : goal.loop-index-init
loop-index-init g c =
    record {
      goes = goes_none _ (g.met.D.SectorDevice.lawful c.args.device.now) c.requires.memory;
      end = c.block_count-index-end.ensures.count;
      anew = c.requires.anew;
      fresh = λ j lt. absurd (omega arith);
      segments = refl;
      address = λ j. refl;
      map = refl;
      dirty = refl;
      chunk = refl;
      told = omega arith;
    }

pub returns-in_err-fill_block-clause-stopped : goal.returns-in_err-fill_block-clause-stopped
returns-in_err-fill_block-clause-stopped g c =
    on_err _ _ (stops_then c.loop-index.invariant.goes c.in_err-fill_block.ensures.stopped)

pub loop-index-preserved : goal.loop-index-preserved
loop-index-preserved g c =
    let so_far = c.loop-index.invariant in
    let filled = c.in_ok-fill_block.ensures.filled in
    record {
      goes = goes_then so_far.goes c.in_ok-fill_block.ensures.done;
      end = so_far.end;
      anew = filled_anew filled so_far.anew;
      fresh = filled_fresh filled so_far.fresh;
      segments = filled.segments ∙ so_far.segments;
      address = λ j. filled.address j ∙ so_far.address j;
      map = c.fill_block.ensures.only.map ∙ so_far.map;
      dirty = c.fill_block.ensures.only.dirty ∙ so_far.dirty;
      chunk = c.fill_block.ensures.only.chunk ∙ so_far.chunk;
      told = let told = so_far.told in let more = c.fill_block.ensures.told in omega (arith, told, more);
    }

pub returns-in_err-fill_block-clause-told : goal.returns-in_err-fill_block-clause-told
returns-in_err-fill_block-clause-told g c =
    let told = c.loop-index.invariant.told in
    let more = c.fill_block.ensures.told in
    let few = c.requires.memory.count.most in
    let end = c.loop-index.invariant.end in
    omega (arith, told, more, few, end)

pub returns-clause-told : goal.returns-clause-told
returns-clause-told g c =
    let told = c.loop-index.invariant.told in
    let few = c.requires.memory.count.most in
    let end = c.loop-index.invariant.end in
    omega (arith, told, few, end)

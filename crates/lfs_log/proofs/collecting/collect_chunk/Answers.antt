use Rattle.std.proofs.Common.{arith, ◌+◌}
use Rattle.lfs_log.proofs.Collected.{adds_then, lifts_more, names_more}
use Rattle.lfs_log.proofs.collecting.collect_chunk.Goals as goal

pub returns-in_err-collect_block-clause-lifts : goal.returns-in_err-collect_block-clause-lifts
returns-in_err-collect_block-clause-lifts c = (
  c.loop-place.place + 1,
  lifts_more c.loop-place.place c.args.memory.now c.loop-place.memory c.collect_block.new.memory c.loop-place.invariant.lifts
      c.collect_block.ensures.lifts,
)

pub loop-place-preserved : goal.loop-place-preserved
loop-place-preserved c = record {
  lifts = lifts_more c.loop-place.place c.args.memory.now c.loop-place.memory c.collect_block.new.memory c.loop-place.invariant.lifts
      c.collect_block.ensures.lifts;
  adds = adds_then c.loop-place.invariant.adds c.collect_block.ensures.adds (c.loop-place.place + 1) (omega arith);
  lists = names_more c.args.names.now c.args.first c.loop-place.place c.requires.above c.collect_block.ensures.adds
      c.collect_block.ensures.lifts (rw (← c.get.ensures) c.in_ok-collect_block.ensures.lists) c.loop-place.invariant.lists;
  end = c.loop-place.invariant.end;
}

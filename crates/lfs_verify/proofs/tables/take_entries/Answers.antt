use Rattle.lfs_verify.proofs.tables.take_entries.Goals as goal
use Rattle.lfs_verify.proofs.UsageLoads.{taken_none, taken_more}

pub loop-entry-init : goal.loop-entry-init
loop-entry-init c = record { taken = taken_none }

pub loop-entry-preserved : goal.loop-entry-preserved
loop-entry-preserved c = record {
  taken = taken_more c.loop-entry.invariant.taken
      c.take_entry.ensures.own c.take_entry.ensures.past c.take_entry.ensures.blocks c.take_entry.ensures.last
      c.take_entry.ensures.unit;
}

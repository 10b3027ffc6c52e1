use Rattle.std.proofs.Common.{◌≡◌, length}
use Rattle.lfs_memory.specs.Moving.{HoldsOn}
use Rattle.lfs_log.specs.Groups.{HasAboveAndLeaves}
use Rattle.lfs_log.specs.Moving.{HasMoved, Moved}
use Rattle.lfs_log.proofs.moving.put_all.Given as goal

abbrev pub invariant-loop-key : goal.invariant-loop-key
invariant-loop-key g l = record {
  moved : HasMoved (g.D.SectorDevice.state l.initial.device) (g.D.SectorDevice.state l.device) l.initial.memory l.memory l.left l.left;
  on : HoldsOn (g.D.SectorDevice.state l.initial.device) (g.D.SectorDevice.state l.device) l.initial.memory l.memory
      (Moved l.victims l.left l.left l.from l.to);
  no_failure : (g.D.SectorDevice.state l.device).failures ≡ (g.D.SectorDevice.state l.initial.device).failures;
  waits : HasAboveAndLeaves l.memory l.from;
}

abbrev pub decreases-loop-key : goal.decreases-loop-key
decreases-loop-key g l = length l.memory.dirty.blocks

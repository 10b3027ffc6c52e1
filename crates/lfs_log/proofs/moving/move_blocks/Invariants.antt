use Rattle.std.proofs.Common.{◌≡◌, ◌<◌, ◌≤◌, ◌*◌, ℕ, length}
use Rattle.lfs_model.specs.declared.limits.TheConstants.{FILE_NUMBERS}
use Rattle.lfs_log.specs.declared.groups.TheConstants.{GROUPS}
use Rattle.std.specs.Prelude.{slice_index_or}
use Rattle.lfs_memory.specs.Moving.{HoldsOn}
use Rattle.lfs_memory.specs.inodes.declared.key.BlockKey.{BlockKey}
use Rattle.lfs_log.specs.Groups.{HasAboveAndLeaves, group_at}
use Rattle.lfs_log.specs.Moving.{HasMoved, MovesFirst}
use Rattle.lfs_log.proofs.moving.move_blocks.Given as goal

abbrev pub invariant-loop-at : goal.invariant-loop-at
invariant-loop-at g l = record {
  moved : HasMoved (g.D.SectorDevice.state l.initial.device) (g.D.SectorDevice.state l.device) l.initial.memory l.memory l.most l.left;
  on : HoldsOn (g.D.SectorDevice.state l.initial.device) (g.D.SectorDevice.state l.device) l.initial.memory l.memory
      (MovesFirst l.victims l.keys.keys l.most l.left l.at l.at_group);
  no_failure : (g.D.SectorDevice.state l.device).failures ≡ (g.D.SectorDevice.state l.initial.device).failures;
  low : l.at_group < GROUPS * FILE_NUMBERS;
  waits : HasAboveAndLeaves l.memory l.at_group;
  rest : (i : ℕ) (d : BlockKey) → l.at ≤ i → i < length l.keys.keys → l.at_group ≤ group_at (slice_index_or l.keys.keys i d);
}

use Rattle.std.proofs.Common.{◌*◌}
use Rattle.lfs_verify.specs.UsageTables.{CopiesUses}
use Rattle.lfs_verify.proofs.usage_stage.copy_uses.Given as goal

abbrev pub invariant-loop-place : goal.invariant-loop-place
invariant-loop-place l = record { copies : CopiesUses l.block l.initial.used l.initial.live l.used l.live (64 * l.index) l.place }

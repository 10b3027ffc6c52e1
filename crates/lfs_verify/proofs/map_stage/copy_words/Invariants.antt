use Rattle.std.proofs.Common.{◌*◌}
use Rattle.lfs_verify.specs.MapTables.{Copies}
use Rattle.lfs_verify.proofs.map_stage.copy_words.Given as goal

abbrev pub invariant-loop-place : goal.invariant-loop-place
invariant-loop-place l = record { copies : Copies l.block l.initial.map l.map (128 * l.index) l.place }

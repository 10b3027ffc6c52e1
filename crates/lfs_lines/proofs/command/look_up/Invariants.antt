use Rattle.std.proofs.Common.{◌≡◌, map, length}
use Rattle.lfs_lines.specs.Command.{command_in}
use Rattle.lfs_lines.proofs.command.look_up.Given as goal

abbrev pub invariant-loop-rows : goal.invariant-loop-rows
invariant-loop-rows l =
    command_in (map (λ row. (row.0, row.1.now)) l.rows) l.word ≡ command_in (map (λ row. (row.0, row.1.now)) l.initial.rows) l.word

abbrev pub decreases-loop-rows : goal.decreases-loop-rows
decreases-loop-rows l = length l.rows

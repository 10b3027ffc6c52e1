use Rattle.std.proofs.Common.{◌≡◌, ◌++◌, take, drop}
use Rattle.lfs_device.specs.Rows.{chosen_rows}
use Rattle.lfs_device.proofs.rows.choose_rows.Given as goal

abbrev pub invariant-loop-row : goal.invariant-loop-row
invariant-loop-row l =
    take l.row-index l.row-items ++ chosen_rows l.left l.rest (drop l.row-index l.row-items)
    ≡ chosen_rows l.choices l.rest l.initial.row-items

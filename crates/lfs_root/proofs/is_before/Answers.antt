use Rattle.std.proofs.Common.{sym}
use Rattle.lfs_root.proofs.Slots.{last_before, older_not_before}
use Rattle.lfs_root.proofs.is_before.Goals as goal

pub returns-in-true-false : goal.returns-in-true-false
returns-in-true-false c first second =
    last_before _ _ _ _ first.number_fits (sym c.in-true-false.ensures) (sym c.in-true-false.ensures')

pub returns-in-false-true : goal.returns-in-false-true
returns-in-false-true c first second =
    older_not_before _ _ _ _ second.number_fits (sym c.in-false-true.ensures) (sym c.in-false-true.ensures')

use Rattle.std.proofs.Common.{inl, inr, rules}
use Rattle.lfs_copy.proofs.Fits.{too_long}
use Rattle.lfs_copy.proofs.fitting.check_names.Goals as goal
use Rattle.lfs_copy.proofs.fitting.check_names.Goals.{then-len-longest-via-then-len-longest}
use Rattle.lfs_copy.proofs.fitting.check_names.Goals.{then-len-longest-via-else-len-longest+then-len-gt-LONGEST_PATH}

pub returns-then-len-longest : goal.returns-then-len-longest
returns-then-len-longest c =
    too_long c.args.rows.now c.loop-row.row-index c.row-item.result c.args.longest c.in_ok-path.path.items c.loop-row-test.true
    c.row-item.is c.in_ok-path.ensures.leads
    (elim c.then-len-longest.branch [
      | then-len-longest-via-then-len-longest w ↦ inl (search rules)
      | then-len-longest-via-else-len-longest+then-len-gt-LONGEST_PATH w ↦ inr (search rules)
    ])

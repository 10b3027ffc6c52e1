use Rattle.std.proofs.Common.{rules}
use Rattle.lfs_copy.proofs.Looks.{listing_refused, new_measured, not_empty, not_measured}
use Rattle.lfs_copy.proofs.looking.look_at_new.Goals as goal

pub returns-in-Err : goal.returns-in-Err
returns-in-Err g c = listing_refused c.in-Err.fault c.in-Err.ensures

pub returns-then-not-is_empty : goal.returns-then-not-is_empty
returns-then-not-is_empty g c = not_empty _ c.in-Ok.ensures (search rules)

pub returns-in-Ok-measure : goal.returns-in-Ok-measure
returns-in-Ok-measure g c = new_measured _ _ c.in-Ok.ensures (search rules) c.in-Ok-measure.ensures

pub returns : goal.returns
returns g c = not_measured _ c.in-Err-measure.fault c.in-Ok.ensures (search rules) c.in-Err-measure.ensures

use Rattle.lfs_copy.proofs.Firsts.{Finding}
use Rattle.lfs_copy.proofs.paths.first_rows.Given as goal

abbrev pub invariant-loop-index : goal.invariant-loop-index
invariant-loop-index l = Finding l.rows l.index l.firsts.items

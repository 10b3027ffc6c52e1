use Rattle.std.proofs.lemmas.Result.{err_from_is_err_and}
use Rattle.std.proofs.Common.{rules}
use Rattle.lfs_copy.proofs.Trees.{named, naming_breaks, naming_more, naming_none, naming_stops}
use Rattle.lfs_copy.proofs.copying.copy_names.Goals as goal

pub loop-index-init : goal.loop-index-init
loop-index-init g c = naming_none _ _

pub returns-in_err-count : goal.returns-in_err-count
returns-in_err-count g c =
    let p = err_from_is_err_and c.from_residual.result c.from_residual.ensures.1 in rw (p.1, p.2)
    (naming_stops _ _ c.loop-index.invariant c.in_err-count.ensures)

pub returns-in_default : goal.returns-in_default
returns-in_default g c = naming_breaks _ c.loop-index.invariant c.in_ok-count.ensures

pub loop-index-preserved : goal.loop-index-preserved
loop-index-preserved g c =
    naming_more _ _ c.loop-index.invariant (search rules) (search rules) c.in_ok-count.ensures (search rules)

pub returns : goal.returns
returns g c = named c.loop-index.invariant (search rules)

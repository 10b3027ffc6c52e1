use Rattle.std.proofs.lemmas.Result.{err_from_is_err_and}
use Rattle.std.proofs.Common.{[]}
use Rattle.lfs_copy.proofs.Both.{contradicts, no_calls, no_path}
use Rattle.lfs_copy.proofs.Firsts.{none_before}
use Rattle.lfs_copy.proofs.Trees.{name_linked, name_made}
use Rattle.lfs_copy.proofs.copying.copy_name.Goals as goal

pub returns-in_err-path : goal.returns-in_err-path
returns-in_err-path g c =
    let p = err_from_is_err_and c.from_residual.result c.from_residual.ensures.1 in rw (p.1, p.2)
    (no_path _ _ _ c.in_err-path.ensures.cause)

pub returns-in_default : goal.returns-in_default
returns-in_default g c = contradicts [] [] (no_calls _ _)

pub returns-then-first-index : goal.returns-then-first-index
returns-then-first-index g c =
    name_linked c.args.plan.now.rows.items c.as_slice.result.now c.args.index c.in-Some.first.now c.args.row.now
    c.in_ok-path.path.items _ _ c.as_slice.ensures.value c.as_slice-then-first-index.ensures.value c.in_ok-path.ensures.leads
    c.if-first-index.true c.copy_link.ensures

pub returns : goal.returns
returns g c =
    name_made c.args.plan.now.rows.items c.as_slice.result.now c.args.index c.args.row.now c.in_ok-path.path.items _ _
    c.as_slice.ensures.value c.as_slice-else-first-index.ensures.value c.in_ok-path.ensures.leads
    (none_before c.args.plan.now.rows.items c.args.plan.now.firsts.items c.as_slice-3.result.now c.args.row.now.number
    c.in-Some.first.now c.args.index c.as_slice-3.ensures.value c.requires c.in-Some.ensures.lookup.3.0 c.in-Some.ensures.lookup.1
    c.if-first-index.false)
    c.copy_object.ensures

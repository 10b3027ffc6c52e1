use Rattle.std.proofs.lemmas.Result.{err_from_is_err_and}
use Rattle.std.proofs.Common.{[], rules}
use Rattle.lfs_copy.proofs.Both.{contradicts, no_calls, no_path}
use Rattle.lfs_copy.proofs.Trees.{linked}
use Rattle.lfs_copy.proofs.copying.copy_link.Goals as goal

pub returns-in_err-place-in-Some : goal.returns-in_err-place-in-Some
returns-in_err-place-in-Some g c =
    let p = err_from_is_err_and c.from_residual.result c.from_residual.ensures.1 in rw (p.1, p.2)
    (no_path _ _ _ c.in_err-place-in-Some.ensures.cause)

pub returns-in_ok-place-in-Some : goal.returns-in_ok-place-in-Some
returns-in_ok-place-in-Some g c =
    linked _ c.args.plan.now.rows.items c.as_slice-rows.result.now c.args.first c.args.row.now c.in-Some.other.now c.args.path.now
    c.in_ok-place-in-Some.place.items c.as_slice-in-Some.result.now c.link.result c.as_slice-rows.ensures.value
    c.as_slice-in-Some.ensures.value c.in-Some.ensures.lookup.3.0 c.in-Some.ensures.lookup.1 (search rules)
    c.in_ok-place-in-Some.ensures.leads c.link.ensures c.without_bytes.ensures

pub returns-in_default : goal.returns-in_default
returns-in_default g c = contradicts [] [] (no_calls _ _)

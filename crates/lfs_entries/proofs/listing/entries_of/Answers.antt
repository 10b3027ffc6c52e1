use Rattle.std.proofs.lemmas.Result.{err_from_is_err_and}
use Rattle.std.proofs.Common.{◌∙◌, ap, sym, length, arith}
use Rattle.lfs_entries.proofs.Listings.{told_all, told_fails, told_next, told_none}
use Rattle.lfs_entries.proofs.listing.entries_of.Goals as goal

pub loop-name-init : goal.loop-name-init
loop-name-init g c =
    told_none c.into_iter-name-iterator.ensures.into_iter_gives.0 (c.into_iter-name-iterator.ensures.into_iter_gives.1 ∙ c.args.names.ok.0
    ∙ sym (ap length c.into_iter-name-iterator.ensures.into_iter_gives.0)) c.in-Ok.ensures.items

pub loop-name-preserved : goal.loop-name-preserved
loop-name-preserved g c =
    let at = c.loop-name in
    let put = c.in_ok-push_entry.ensures.done in
    told_next at.invariant c.in-Some.ensures.steps.0 c.in_ok-push_entry.ensures.only.reads (g.met.F.Files.lawful c.args.files.now)
    (let gone = c.in-Some.ensures.steps.1 in omega (arith, gone)) put.0 put.1 put.2

pub returns-in_err-push_entry-clause-failed : goal.returns-in_err-push_entry-clause-failed
returns-in_err-push_entry-clause-failed g c =
    let p = err_from_is_err_and c.from_residual.result c.from_residual.ensures.1 in rw (p.1, p.2)
    (let at = c.loop-name in
    told_fails at.invariant c.in-Some.ensures.steps.0
    c.in_err-push_entry.ensures.only.reads c.in_err-push_entry.field-0.0 c.in_err-push_entry.ensures.failed)

pub returns-clause-answer : goal.returns-clause-answer
returns-clause-answer g c =
    let at = c.loop-name in
    told_all at.invariant c.in-None.ensures.steps.0

use Rattle.std.proofs.lemmas.Result.{IfErr-weaker, IfOk-weaker, err_from_is_err_and}
use Rattle.lfs_entries.specs.Rows.{IsListed}
use Rattle.lfs_entries.proofs.Listings.{fails_list, listed_fails, listed_told}
use Rattle.lfs_entries.proofs.listing.list_entries.Goals as goal

pub returns-in_err-names-clause-failed : goal.returns-in_err-names-clause-failed
returns-in_err-names-clause-failed g c =
    let p = err_from_is_err_and c.from_residual.result c.from_residual.ensures.1 in rw (p.1, p.2)
    (fails_list (g.F.Files.state c.args.files.now) (g.F.Files.state c.list.new.files) c.args.directory.value c.args.header
    c.in_err-names.field-0.0
    c.in_err-names.ensures.failed)

pub returns-clause-answer : goal.returns-clause-answer
returns-clause-answer g c =
    IfOk-weaker c.entries_of.result _ _ (λ told. listed_told (λ m. IsListed m) c.args.directory.value
    c.args.header c.in_ok-names.names.items c.in_ok-names.ensures.reads c.entries_of.ensures.only.reads c.in_ok-names.ensures.answer
    told.items) c.entries_of.ensures.answer

pub returns-clause-failed : goal.returns-clause-failed
returns-clause-failed g c =
    IfErr-weaker c.entries_of.result _ _ (listed_fails (λ m. IsListed m) c.args.directory.value
    c.args.header c.in_ok-names.names.items c.in_ok-names.ensures.reads c.entries_of.ensures.only.reads c.in_ok-names.ensures.answer)
    c.entries_of.ensures.failed

use Rattle.std.proofs.Common.{subst}
use Rattle.std.proofs.lemmas.Result.{err_from_is_err_and}
use Rattle.lfs_path.specs.dirs.Finding.{value_of}
use Rattle.lfs_entries.specs.Finding.{FindsNumber}
use Rattle.lfs_entries.proofs.Findings.{object_failed}
use Rattle.lfs_entries.proofs.finding.find_object.Goals as goal

pub returns-in_err-header-clause-refused : goal.returns-in_err-header-clause-refused
returns-in_err-header-clause-refused g c =
    let p = err_from_is_err_and c.from_residual-in_err-header.result c.from_residual-in_err-header.ensures.1 in rw (p.1, p.2) (object_failed
    c.args.directory.value c.in-Some.found.number.value c.args.name.now c.in_ok-holder.holder
    c.find_entry.ensures.only.reads c.header_of.ensures.reads
    (subst (λ o. FindsNumber (g.F.Files.state c.args.files.now) (g.F.Files.state c.find_entry.new.files) c.args.directory.value
    c.args.name.now c.in_ok-holder.holder (value_of o)) c.in-Some.is c.in_ok-holder.ensures.found)
    c.in_err-header.ensures.failed)

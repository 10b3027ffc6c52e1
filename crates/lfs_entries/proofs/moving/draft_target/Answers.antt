use Rattle.std.proofs.Common.{Option, sym, subst}
use Rattle.std.specs.Prelude.{IfErr, OnOk}
use Rattle.lfs_entries.specs.declared.entry.Object.{Object}
use Rattle.lfs_entries.specs.Moving.{HasFoundName, NamesFound}
use Rattle.lfs_entries.specs.Telling.{FailsWhere}
use Rattle.lfs_entries.proofs.moving.draft_target.Goals as goal

pub returns-in-Some-clause-done : goal.returns-in-Some-clause-done
returns-in-Some-clause-done g c =
    subst (λ (o : Option Object). OnOk c.repoint_name.result
    (NamesFound (g.F.Files.state c.args.files.now) (g.F.Files.state c.repoint_name.new.files) o c.args.target.directory.value
    c.args.holder c.args.number.value c.args.target.name.now)) (sym c.in-Some.is) c.repoint_name.ensures.done

pub returns-in-Some-clause-failed : goal.returns-in-Some-clause-failed
returns-in-Some-clause-failed g c =
    subst (λ (o : Option Object). IfErr c.repoint_name.result
    (FailsWhere (g.F.Files.state c.args.files.now) (g.F.Files.state c.repoint_name.new.files) (HasFoundName o
    c.args.target.directory.value c.args.holder c.args.target.name.now))) (sym c.in-Some.is) c.repoint_name.ensures.failed

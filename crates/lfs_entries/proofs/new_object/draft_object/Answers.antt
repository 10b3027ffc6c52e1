use Rattle.std.proofs.Common.{sym, subst}
use Rattle.lfs_entries.specs.declared.new_object.NewObject.{NewObject}
use Rattle.lfs_entries.specs.NewObjects.{DraftsObject, new_kind}
use Rattle.lfs_entries.proofs.NewObjects.{directory_drafted, file_drafted, made_counted}
use Rattle.lfs_entries.proofs.new_object.draft_object.Goals as goal

pub returns-in_ok-create-in-File-clause-done : goal.returns-in_ok-create-in-File-clause-done
returns-in_ok-create-in-File-clause-done g c =
    subst (λ (o : NewObject). DraftsObject (g.F.Files.state c.args.files.now) (g.F.Files.state c.create.new.self) c.args.number.value
    (new_kind o)) (sym c.in-File.is)
    (file_drafted (g.F.Files.state c.args.files.now) (g.F.Files.state c.create.new.self) c.args.number.value
    c.in_ok-create-in-File.ensures.done)

pub returns-in_ok-create-in-File-clause-counted : goal.returns-in_ok-create-in-File-clause-counted
returns-in_ok-create-in-File-clause-counted g c =
    made_counted (g.F.Files.state c.args.files.now) (g.F.Files.state c.create.new.self) c.args.number.value
    c.in_ok-create-in-File.ensures.counted

pub returns-in_ok-create-in-Directory-clause-done : goal.returns-in_ok-create-in-Directory-clause-done
returns-in_ok-create-in-Directory-clause-done g c =
    subst (λ (o : NewObject).
    DraftsObject (g.F.Files.state c.args.files.now) (g.F.Files.state c.create-in-Directory.new.self) c.args.number.value (new_kind o))
    (sym c.in-Directory.is)
    (directory_drafted (g.F.Files.state c.args.files.now) (g.F.Files.state c.create-in-Directory.new.self) c.args.number.value
    c.in-Directory.form
    c.in_ok-create-in-Directory.ensures.done)

pub returns-in_ok-create-in-Directory-clause-counted : goal.returns-in_ok-create-in-Directory-clause-counted
returns-in_ok-create-in-Directory-clause-counted g c =
    made_counted (g.F.Files.state c.args.files.now) (g.F.Files.state c.create-in-Directory.new.self) c.args.number.value
    c.in_ok-create-in-Directory.ensures.counted

use Rattle.std.proofs.Common.{Bool, ap, subst, ◌∙◌}
use Rattle.lfs_files.specs.declared.header.Header.{Header}
use Rattle.lfs_files.specs.Headers.{relinked}
use Rattle.lfs_path.specs.dirs.Adding.{Adds}
use Rattle.lfs_entries.specs.Drafting.{Relinks}
use Rattle.lfs_entries.specs.NewNames.{holder_with, links_beside}
use Rattle.lfs_entries.specs.NewObjects.{new_kind}
use Rattle.lfs_entries.proofs.NewNames.{entry_counted, entry_drafted}
use Rattle.lfs_entries.proofs.new_name.draft_entry.Goals as goal

pub returns-clause-done : goal.returns-clause-done
returns-clause-done g c =
    let links = c.links_beside-links.ensures ∙ ap (λ (t : Bool). links_beside t c.args.holder.links) c.is_new_directory-gains.ensures in
    entry_drafted (g.F.Files.state c.args.files.now) (g.F.Files.state c.draft_object.new.files) (g.F.Files.state c.relink_where.new.files)
    (g.F.Files.state c.add.new.files) c.args.directory.value c.args.holder c.args.number.value c.args.number.some
    (new_kind c.args.object) c.args.name.now c.draft_object.ensures.only.redrafts c.relink_where.ensures.redrafts c.add.ensures.redrafts
    c.in_ok-draft_object.ensures.done
    (subst (λ (t : Bool).
    Relinks (g.F.Files.state c.draft_object.new.files) (g.F.Files.state c.relink_where.new.files) t c.args.directory.value
    c.args.holder (holder_with c.args.holder (new_kind c.args.object)).links) c.is_new_directory-gains.ensures
    (subst (Relinks (g.F.Files.state c.draft_object.new.files) (g.F.Files.state c.relink_where.new.files) c.is_new_directory-gains.result
    c.args.directory.value c.args.holder) links c.in_ok-linked.ensures.done))
    (subst (λ (h : Header). Adds (g.F.Files.state c.relink_where.new.files) (g.F.Files.state c.add.new.files) c.args.directory.value h
    c.args.number.value c.args.name.now) (c.in_ok-linked.ensures.header ∙ ap (relinked c.args.holder) links) c.in_ok-add.ensures.done)

pub returns-clause-counted : goal.returns-clause-counted
returns-clause-counted g c =
    let links = c.links_beside-links.ensures ∙ ap (λ (t : Bool). links_beside t c.args.holder.links) c.is_new_directory-gains.ensures in
    entry_counted (g.F.Files.state c.args.files.now) (g.F.Files.state c.draft_object.new.files) (g.F.Files.state c.relink_where.new.files)
    (g.F.Files.state c.add.new.files) c.args.directory.value c.args.holder c.args.number.value c.args.number.some
    (new_kind c.args.object) c.args.name.now c.draft_object.ensures.only.redrafts c.relink_where.ensures.redrafts c.add.ensures.redrafts
    c.in_ok-draft_object.ensures.done
    (subst (λ (t : Bool).
    Relinks (g.F.Files.state c.draft_object.new.files) (g.F.Files.state c.relink_where.new.files) t c.args.directory.value
    c.args.holder (holder_with c.args.holder (new_kind c.args.object)).links) c.is_new_directory-gains.ensures
    (subst (Relinks (g.F.Files.state c.draft_object.new.files) (g.F.Files.state c.relink_where.new.files) c.is_new_directory-gains.result
    c.args.directory.value c.args.holder) links c.in_ok-linked.ensures.done))
    (subst (λ (h : Header). Adds (g.F.Files.state c.relink_where.new.files) (g.F.Files.state c.add.new.files) c.args.directory.value h
    c.args.number.value c.args.name.now) (c.in_ok-linked.ensures.header ∙ ap (relinked c.args.holder) links) c.in_ok-add.ensures.done)
    c.in_ok-draft_object.ensures.counted c.in_ok-add.ensures.counted

use Rattle.std.proofs.Common.{Bool, ap, subst, ◌∙◌, ◌-◌}
use Rattle.std.specs.Prelude.{OnOk, IfErr, if◌then◌else◌}
use Rattle.std.proofs.lemmas.Result.{IfErr-weaker, on_ok_weaker}
use Rattle.lfs_files.specs.declared.header.Header.{Header}
use Rattle.lfs_files.specs.Headers.{relinked}
use Rattle.lfs_path.specs.dirs.Taking.{CountsDropped, Takes}
use Rattle.lfs_entries.specs.Drafting.{HasNamed, Relinks}
use Rattle.lfs_entries.specs.OldNames.{holder_without}
use Rattle.lfs_entries.specs.Telling.{FailsWhere}
use Rattle.lfs_entries.proofs.OldNames.{drop_counted, drop_drafted, drop_fails}
use Rattle.lfs_entries.proofs.old_name.drop_entry.Goals as goal

pub returns-clause-done : goal.returns-clause-done
returns-clause-done g c =
    let links = c.links_without-links.ensures ∙ ap (λ (t : Bool). if t then c.args.entry.holder.links - 1 else c.args.entry.holder.links)
    c.is_directory-loses.ensures.value in
    let holder = c.in_ok-holder.ensures.header ∙ ap (relinked c.args.entry.holder) links in
    on_ok_weaker c.take_name.result
    (drop_drafted (g.F.Files.state c.args.files.now) (g.F.Files.state c.lose_link.new.files) (g.F.Files.state c.relink_where.new.files)
    (g.F.Files.state c.take_name.new.files) c.args.directory.value c.args.entry c.args.is_open c.args.name.now
    c.lose_link.ensures.only.redrafts c.relink_where.ensures.redrafts c.take_name.ensures.only.redrafts c.in_ok-lose_link.ensures.done
    (subst
    (λ (t : Bool). Relinks (g.F.Files.state c.lose_link.new.files) (g.F.Files.state c.relink_where.new.files) t c.args.directory.value
    c.args.entry.holder (holder_without c.args.entry).links) c.is_directory-loses.ensures.value
    (subst (Relinks (g.F.Files.state c.lose_link.new.files) (g.F.Files.state c.relink_where.new.files) c.is_directory-loses.result
    c.args.directory.value c.args.entry.holder) links c.in_ok-holder.ensures.done)))
    (subst
    (λ (h : Header). OnOk c.take_name.result (Takes (g.F.Files.state c.relink_where.new.files) (g.F.Files.state c.take_name.new.files)
    c.args.directory.value h c.args.name.now)) holder c.take_name.ensures.done)

pub returns-clause-counted : goal.returns-clause-counted
returns-clause-counted g c =
    let links = c.links_without-links.ensures ∙ ap (λ (t : Bool). if t then c.args.entry.holder.links - 1 else c.args.entry.holder.links)
    c.is_directory-loses.ensures.value in
    let holder = c.in_ok-holder.ensures.header ∙ ap (relinked c.args.entry.holder) links in
    on_ok_weaker c.take_name.result
    (drop_counted (g.F.Files.state c.args.files.now) (g.F.Files.state c.lose_link.new.files) (g.F.Files.state c.relink_where.new.files)
    (g.F.Files.state c.take_name.new.files) c.args.directory.value c.args.entry c.args.is_open c.args.name.now
    c.lose_link.ensures.only.redrafts c.relink_where.ensures.redrafts c.take_name.ensures.only.redrafts c.in_ok-lose_link.ensures.done
    (subst
    (λ (t : Bool). Relinks (g.F.Files.state c.lose_link.new.files) (g.F.Files.state c.relink_where.new.files) t c.args.directory.value
    c.args.entry.holder (holder_without c.args.entry).links) c.is_directory-loses.ensures.value
    (subst (Relinks (g.F.Files.state c.lose_link.new.files) (g.F.Files.state c.relink_where.new.files) c.is_directory-loses.result
    c.args.directory.value c.args.entry.holder) links c.in_ok-holder.ensures.done)) c.in_ok-lose_link.ensures.counted)
    (subst (λ (h : Header). OnOk c.take_name.result (CountsDropped (g.F.Files.state c.relink_where.new.files)
    (g.F.Files.state c.take_name.new.files) c.args.directory.value h)) holder c.take_name.ensures.counted)

pub returns-clause-failed : goal.returns-clause-failed
returns-clause-failed g c =
    let links = c.links_without-links.ensures ∙ ap (λ (t : Bool). if t then c.args.entry.holder.links - 1 else c.args.entry.holder.links)
    c.is_directory-loses.ensures.value in
    let holder = c.in_ok-holder.ensures.header ∙ ap (relinked c.args.entry.holder) links in
    IfErr-weaker c.take_name.result _ _
    (drop_fails (g.F.Files.state c.args.files.now) (g.F.Files.state c.lose_link.new.files) (g.F.Files.state c.relink_where.new.files)
    (g.F.Files.state c.take_name.new.files) c.args.directory.value c.args.entry c.args.is_open c.args.name.now
    c.lose_link.ensures.only.redrafts c.relink_where.ensures.redrafts c.take_name.ensures.only.redrafts c.in_ok-lose_link.ensures.done
    (subst
    (λ (t : Bool). Relinks (g.F.Files.state c.lose_link.new.files) (g.F.Files.state c.relink_where.new.files) t c.args.directory.value
    c.args.entry.holder (holder_without c.args.entry).links) c.is_directory-loses.ensures.value
    (subst (Relinks (g.F.Files.state c.lose_link.new.files) (g.F.Files.state c.relink_where.new.files) c.is_directory-loses.result
    c.args.directory.value c.args.entry.holder) links c.in_ok-holder.ensures.done)))
    (subst (λ (h : Header). IfErr c.take_name.result (FailsWhere (g.F.Files.state c.relink_where.new.files)
    (g.F.Files.state c.take_name.new.files) (HasNamed c.args.directory.value h c.args.name.now))) holder c.take_name.ensures.failed)

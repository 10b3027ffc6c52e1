use Rattle.std.proofs.Common.{Bool, ap, subst, ◌∙◌, ◌-◌, ◌+◌}
use Rattle.std.specs.Prelude.{if◌then◌else◌}
use Rattle.lfs_files.specs.Headers.{relinked}
use Rattle.lfs_entries.specs.Drafting.{Relinks}
use Rattle.lfs_entries.specs.Moving.{fewer_links, more_links}
use Rattle.lfs_entries.proofs.Moves.{both_drafted}
use Rattle.lfs_entries.proofs.moving.relink_holders.Goals as goal

pub returns-clause-first : goal.returns-clause-first
returns-clause-first g c =
    let links = c.links_without-fewer.ensures ∙ ap (λ (t : Bool). if t then c.args.source.holder.links - 1 else c.args.source.holder.links)
    c.loses_directory-loses.ensures in
    c.in_ok-from.ensures.header ∙ ap (relinked c.args.source.holder) links

pub returns-clause-second : goal.returns-clause-second
returns-clause-second g c =
    let links = c.links_beside-more.ensures ∙ ap (λ (t : Bool). if t then c.args.target.holder.links + 1 else c.args.target.holder.links)
    c.gains_directory-gains.ensures in
    c.in_ok-to.ensures.header ∙ ap (relinked c.args.target.holder) links

pub returns-clause-done : goal.returns-clause-done
returns-clause-done g c =
    let fewer = c.links_without-fewer.ensures ∙ ap (λ (t : Bool). if t then c.args.source.holder.links - 1 else c.args.source.holder.links)
    c.loses_directory-loses.ensures in
    let more = c.links_beside-more.ensures ∙ ap (λ (t : Bool). if t then c.args.target.holder.links + 1 else c.args.target.holder.links)
    c.gains_directory-gains.ensures in
    both_drafted (g.F.Files.state c.args.files.now) (g.F.Files.state c.relink_where.new.files)
    (g.F.Files.state (c.relink_where-2).new.files) c.args.source c.args.target
    (subst
    (λ (t : Bool). Relinks (g.F.Files.state c.args.files.now) (g.F.Files.state c.relink_where.new.files) t c.args.source.directory.value
    c.args.source.holder (fewer_links c.args.source c.args.target)) c.loses_directory-loses.ensures
    (subst (Relinks (g.F.Files.state c.args.files.now) (g.F.Files.state c.relink_where.new.files) c.loses_directory-loses.result
    c.args.source.directory.value c.args.source.holder) fewer c.in_ok-from.ensures.done))
    (subst (λ (t : Bool).
    Relinks (g.F.Files.state c.relink_where.new.files) (g.F.Files.state (c.relink_where-2).new.files) t c.args.target.directory.value
    c.args.target.holder (more_links c.args.source c.args.target)) c.gains_directory-gains.ensures
    (subst (Relinks (g.F.Files.state c.relink_where.new.files) (g.F.Files.state (c.relink_where-2).new.files) c.gains_directory-gains.result
    c.args.target.directory.value c.args.target.holder) more c.in_ok-to.ensures.done))

use Rattle.std.proofs.Common.{subst, sym}
use Rattle.lfs_entries.specs.Drafting.{Relinks}
use Rattle.lfs_entries.proofs.Drafts.{links_drafted, links_stay}
use Rattle.lfs_entries.proofs.drafting.relink_where.Goals as goal

pub returns-then-not-changes-clause-done : goal.returns-then-not-changes-clause-done
returns-then-not-changes-clause-done g c =
    subst (λ t.
    Relinks (g.F.Files.state c.args.files.now) (g.F.Files.state c.args.files.now) t c.args.number.value c.args.header c.args.links)
    (sym c.if-not-changes.true)
    (links_stay (g.F.Files.state c.args.files.now) c.args.number.value c.args.header (c.requires.same c.if-not-changes.true))

pub returns-clause-done : goal.returns-clause-done
returns-clause-done g c =
    subst (λ t.
    Relinks (g.F.Files.state c.args.files.now) (g.F.Files.state c.set_links.new.self) t c.args.number.value c.args.header c.args.links)
    (sym c.if-not-changes.false) (links_drafted
    (c.requires.linked c.if-not-changes.false) c.in_ok-set_links.ensures.done c.in_ok-set_links.ensures.counted)

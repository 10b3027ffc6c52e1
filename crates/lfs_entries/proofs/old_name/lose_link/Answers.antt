use Rattle.std.proofs.Common.{subst, sym, ◌∙◌}
use Rattle.lfs_entries.specs.OldNames.{Loses}
use Rattle.lfs_entries.proofs.OldNames.{goes_counted, keeps_counted, loss_goes}
use Rattle.lfs_entries.proofs.old_name.lose_link.Goals as goal

pub returns-then-keeps_object-clause-counted : goal.returns-then-keeps_object-clause-counted
returns-then-keeps_object-clause-counted g c =
    keeps_counted (g.F.Files.state c.args.files.now) (g.F.Files.state c.set_links.new.self) c.args.number.value c.args.header
    c.in_ok-set_links.ensures.counted

pub returns-clause-done : goal.returns-clause-done
returns-clause-done g c =
    subst (Loses (g.F.Files.state c.args.files.now) (g.F.Files.state c.remove.new.self) c.args.number.value c.args.header)
    (sym c.if-keeps_object.false ∙ c.keeps_object.ensures)
    (loss_goes (g.F.Files.state c.args.files.now) (g.F.Files.state c.remove.new.self) c.args.number.value c.args.header
    c.in_ok-remove.ensures.done)

pub returns-clause-counted : goal.returns-clause-counted
returns-clause-counted g c =
    goes_counted (g.F.Files.state c.args.files.now) (g.F.Files.state c.remove.new.self) c.args.number.value c.args.header
    c.in_ok-remove.ensures.counted

use Rattle.std.proofs.Common.{Option, subst, sym}
use Rattle.std.specs.Prelude.{OnOk}
use Rattle.lfs_entries.specs.declared.entry.Object.{Object}
use Rattle.lfs_entries.specs.Moving.{LosesFound}
use Rattle.lfs_entries.proofs.Moves.{found_none, found_then}
use Rattle.lfs_entries.proofs.moving.drop_replaced.Goals as goal

pub returns-in-None-clause-done : goal.returns-in-None-clause-done
returns-in-None-clause-done g c =
    subst (λ (o : Option Object). LosesFound (g.F.Files.state c.args.files.now) (g.F.Files.state c.args.files.now) o c.args.is_open)
    (sym c.in-None.is) (found_none (g.F.Files.state c.args.files.now) c.args.is_open)

pub returns-in-Some-clause-done : goal.returns-in-Some-clause-done
returns-in-Some-clause-done g c =
    subst (λ (o : Option Object). OnOk c.lose_link.result
    (LosesFound (g.F.Files.state c.args.files.now) (g.F.Files.state c.lose_link.new.files) o c.args.is_open)) (sym c.in-Some.is)
    (found_then (g.F.Files.state c.args.files.now) (g.F.Files.state c.lose_link.new.files) c.in-Some.object c.args.is_open
    c.lose_link.result c.lose_link.ensures.done
    c.lose_link.ensures.counted)

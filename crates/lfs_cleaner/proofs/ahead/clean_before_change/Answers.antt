use Rattle.std.proofs.Common.{rules, inl, inr, refl, ◌∙◌, arith}
use Rattle.lfs_log.proofs.LogReads.{whole_count}
use Rattle.lfs_cleaner.proofs.Befores.{keeps_tried}
use Rattle.lfs_cleaner.proofs.CleanBounds.{halts_after, halts_first, makes_after, makes_none, on_success}
use Rattle.lfs_cleaner.proofs.CleanEnds.{halts_at_once, keeps_none}
use Rattle.lfs_cleaner.proofs.ahead.clean_before_change.Goals as goal

pub returns-then-not-may_commit-clause-makes : goal.returns-then-not-may_commit-clause-makes
returns-then-not-may_commit-clause-makes g c = makes_none _ (g.met.D.SectorDevice.lawful c.args.log.now.device) c.requires

pub returns-then-has_three_sixteenths-clause-makes : goal.returns-then-has_three_sixteenths-clause-makes
returns-then-has_three_sixteenths-clause-makes g c = makes_none _ (g.met.D.SectorDevice.lawful c.args.log.now.device) c.requires

pub returns-in-Err-Full-clause-makes : goal.returns-in-Err-Full-clause-makes
returns-in-Err-Full-clause-makes g c =
    rw (c.in-Err-Full.ensures.full (search rules)).0 (makes_none _ (g.met.D.SectorDevice.lawful c.args.log.now.device) c.requires)

pub returns-in-Err-Halted-clause-halted : goal.returns-in-Err-Halted-clause-halted
returns-in-Err-Halted-clause-halted g c is = halts_first _ (c.in-Err-Halted.ensures.halted (search rules))

pub returns-then-not-may_commit-2-clause-done : goal.returns-then-not-may_commit-2-clause-done
returns-then-not-may_commit-2-clause-done g c = inl (record {
  between = c.commit_unsaved.new.log;
  commits = c.in-Ok.ensures.done.commits;
  tries = inr (c.if-not-may_commit-2.ensures.no (search rules), refl);
})

pub returns-then-not-may_commit-2-clause-makes : goal.returns-then-not-may_commit-2-clause-makes
returns-then-not-may_commit-2-clause-makes g c =
    let ready = c.in-Ok.ensures.done in
    makes_after ready {x = 0} (omega arith)
    (keeps_none _ _ (g.met.D.SectorDevice.lawful c.commit_unsaved.new.log.device) ready.keeps.running)

pub returns-clause-done : goal.returns-clause-done
returns-clause-done g c =
    on_success c.try_pass.result _ _ _
    (λ tries same. inl (record {
      between = c.commit_unsaved.new.log;
      commits = c.in-Ok.ensures.done.commits;
      tries = inl (c.if-not-may_commit-2.ensures.yes (search rules), tries);
    }))
    c.try_pass.ensures.done c.try_pass.ensures.done

pub returns-clause-makes : goal.returns-clause-makes
returns-clause-makes g c =
    let least = (whole_count g.D.SectorDevice.state c.args.log.now c.are_tables_whole.ensures c.requires).least in
    let ready = c.in-Ok.ensures.done in
    on_success c.try_pass.result _ _ _
    (λ tries same. makes_after ready {x = 1} (omega (arith, least))
    (keeps_tried ready.keeps.running tries c.try_pass.ensures.totals))
    c.try_pass.ensures.done c.try_pass.ensures.done

pub returns-clause-halted : goal.returns-clause-halted
returns-clause-halted g c is =
    halts_after c.in-Ok.ensures.done {x = 0} (omega arith) (halts_at_once _ _ _ (c.try_pass.ensures.halted is))

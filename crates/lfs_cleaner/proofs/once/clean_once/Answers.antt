use Rattle.std.proofs.Common.{rules, inr, refl, sym, ◌∙◌, arith}
use Rattle.lfs_log.proofs.LogReads.{whole_count}
use Rattle.lfs_cleaner.proofs.Onces.{fails_pass, keeps_due, lacks_pass, once_behind, once_told}
use Rattle.lfs_cleaner.proofs.CleanEnds.{halts_at_once}
use Rattle.lfs_cleaner.proofs.CleanBounds.{fails_after, halts_after, halts_first, lacks_after, lacks_commit, makes_after, makes_none}
use Rattle.lfs_cleaner.proofs.CleanBounds.{on_success}
use Rattle.lfs_cleaner.proofs.CleanBounds.{full_else}
use Rattle.lfs_cleaner.proofs.once.clean_once.Goals as goal

pub returns-then-has_quarter-clause-done : goal.returns-then-has_quarter-clause-done
returns-then-has_quarter-clause-done g c =
    record {
      makes = makes_none _ (g.met.D.SectorDevice.lawful c.args.log.now.device) (sym c.is_halted.ensures ∙ c.if-is_halted.false);
      once = inr (c.if-has_quarter.ensures.yes (search rules), refl);
    }

pub returns-in-Err-clause-full : goal.returns-in-Err-clause-full
returns-in-Err-clause-full g c is =
    let full = c.in-Err.ensures.full (search rules) in
    lacks_commit _ (g.met.D.SectorDevice.lawful c.args.log.now.device) (sym c.is_halted.ensures ∙ c.if-is_halted.false) full.0 full.1 full.2

pub returns-in-Err-clause-device : goal.returns-in-Err-clause-device
returns-in-Err-clause-device g c is = absurd (c.in-Err.ensures.other (search rules))

pub returns-in-Err-clause-halted : goal.returns-in-Err-clause-halted
returns-in-Err-clause-halted g c is ne = halts_first _ (c.in-Err.ensures.halted (search rules))

pub returns-in-Err-clause-unsaved : goal.returns-in-Err-clause-unsaved
returns-in-Err-clause-unsaved g c ne none =
    full_else _ _ (λ e. (c.in-Err.ensures.full e).0) c.in-Err.ensures.other ne

pub returns-clause-done : goal.returns-clause-done
returns-clause-done g c =
    let running = sym c.is_halted.ensures ∙ c.if-is_halted.false in
    let least = (whole_count g.D.SectorDevice.state c.args.log.now c.are_tables_whole.ensures running).least in
    let ready = c.in-Ok.ensures.done in
    on_success c.pass_where_due.result _ _ _
    (λ due same. record {
      makes = makes_after ready (omega (arith, least)) (keeps_due (g.met.D.SectorDevice.lawful c.commit_unsaved.new.log.device)
          ready.keeps.running due c.pass_where_due.ensures.totals);
      once = once_behind ready.commits due;
    })
    c.pass_where_due.ensures.done c.pass_where_due.ensures.done

pub returns-clause-alone : goal.returns-clause-alone
returns-clause-alone g c all = rw (← c.commit_unsaved.ensures.quiet all) c.pass_where_due.ensures.done

pub returns-clause-full : goal.returns-clause-full
returns-clause-full g c is =
    let ready = c.in-Ok.ensures.done in
    let refused = c.pass_where_due.ensures.full is in
    lacks_after ready (omega arith) (lacks_pass (g.met.D.SectorDevice.lawful c.commit_unsaved.new.log.device) ready.keeps.running
    ready.nothing refused.0 refused.1)

pub returns-clause-device : goal.returns-clause-device
returns-clause-device g c is =
    fails_after c.in-Ok.ensures.done (omega arith) (fails_pass c.in-Ok.ensures.done.keeps.running (c.pass_where_due.ensures.device is))

pub returns-clause-halted : goal.returns-clause-halted
returns-clause-halted g c is ne =
    halts_after c.in-Ok.ensures.done (omega arith) (halts_at_once _ _ _ (c.pass_where_due.ensures.halted is))

pub returns-clause-totals : goal.returns-clause-totals
returns-clause-totals g c = c.pass_where_due.ensures.totals ∙ c.commit_unsaved.ensures.totals

pub returns-clause-told : goal.returns-clause-told
returns-clause-told g c =
    once_told _ _ _ c.in-Ok.ensures.done.keeps.segments c.commit_unsaved.ensures.told c.pass_where_due.ensures.told

pub returns-clause-saved : goal.returns-clause-saved
returns-clause-saved g c all = rw (← c.commit_unsaved.ensures.quiet all) c.pass_where_due.ensures.told

use Rattle.std.proofs.Common.{rules, sym, ◌∙◌, arith}
use Rattle.lfs_cleaner.proofs.CleanBounds.{fails_after, halts_after, halts_first, lacks_after, lacks_commit, on_success}
use Rattle.lfs_cleaner.proofs.CleanBounds.{quarter_after, quarter_none, clean_told, full_else}
use Rattle.lfs_cleaner.proofs.making.make_clean.Goals as goal

pub returns-then-has_quarter-clause-done : goal.returns-then-has_quarter-clause-done
returns-then-has_quarter-clause-done g c =
    quarter_none (g.met.D.SectorDevice.lawful c.args.log.now.device) (sym c.is_halted.ensures ∙ c.if-is_halted.false)
    (c.if-has_quarter.ensures.yes (search rules))

pub returns-in-Err-clause-full : goal.returns-in-Err-clause-full
returns-in-Err-clause-full g c is =
    let full = c.in-Err.ensures.full (search rules) in
    lacks_commit _ (g.met.D.SectorDevice.lawful c.args.log.now.device) (sym c.is_halted.ensures ∙ c.if-is_halted.false) full.0 full.1 full.2

pub returns-in-Err-clause-device : goal.returns-in-Err-clause-device
returns-in-Err-clause-device g c is = absurd (c.in-Err.ensures.other (search rules))

pub returns-in-Err-clause-halted : goal.returns-in-Err-clause-halted
returns-in-Err-clause-halted g c is ne = halts_first _ (c.in-Err.ensures.halted (search rules))

pub returns-in-Err-clause-unsaved : goal.returns-in-Err-clause-unsaved
returns-in-Err-clause-unsaved g c ne none =
    full_else _ _ (λ e. (c.in-Err.ensures.full e).0) c.in-Err.ensures.other ne

pub returns-clause-done : goal.returns-clause-done
returns-clause-done g c =
    let size = c.in-Ok.ensures.done.keeps.segments in
    on_success c.pass_until_quarter.result _ _ _
    (quarter_after c.in-Ok.ensures.done (omega (arith, size)))
    c.pass_until_quarter.ensures.done c.pass_until_quarter.ensures.enough

pub returns-clause-full : goal.returns-clause-full
returns-clause-full g c is =
    let size = c.in-Ok.ensures.done.keeps.segments in
    lacks_after c.in-Ok.ensures.done (omega (arith, size)) (c.pass_until_quarter.ensures.full is)

pub returns-clause-device : goal.returns-clause-device
returns-clause-device g c is =
    let size = c.in-Ok.ensures.done.keeps.segments in
    fails_after c.in-Ok.ensures.done (omega (arith, size)) (c.pass_until_quarter.ensures.device is)

pub returns-clause-halted : goal.returns-clause-halted
returns-clause-halted g c is ne =
    let size = c.in-Ok.ensures.done.keeps.segments in
    halts_after c.in-Ok.ensures.done (omega (arith, size)) (c.pass_until_quarter.ensures.halted is)

pub returns-clause-totals : goal.returns-clause-totals
returns-clause-totals g c = c.pass_until_quarter.ensures.totals ∙ c.commit_unsaved.ensures.totals

pub returns-clause-told : goal.returns-clause-told
returns-clause-told g c =
    clean_told _ _ _ c.in-Ok.ensures.done.keeps.segments c.commit_unsaved.ensures.told c.pass_until_quarter.ensures.told

pub returns-clause-passes : goal.returns-clause-passes
returns-clause-passes g c all = rw (← c.commit_unsaved.ensures.quiet all) c.pass_until_quarter.ensures.told

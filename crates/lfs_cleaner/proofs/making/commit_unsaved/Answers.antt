use Rattle.std.proofs.Common.{rules, ◌≡◌, false, sym, ◌∙◌}
use Rattle.lfs_cleaner.proofs.CleanBounds.{readied_none, readied_saves}
use Rattle.lfs_cleaner.proofs.making.commit_unsaved.Goals as goal

pub returns-then-is_saved-clause-done : goal.returns-then-is_saved-clause-done
returns-then-is_saved-clause-done g c =
    readied_none (g.met.D.SectorDevice.lawful c.args.log.now.device) c.requires
    (sym c.is_saved.ensures.value ∙ c.if-is_saved.true) (c.if-is_saved.ensures.nothing (search rules))

pub returns-in-Ok-clause-done : goal.returns-in-Ok-clause-done
returns-in-Ok-clause-done g c =
    let some : c.args.log.now.saved ≡ false = sym c.is_saved.ensures.value ∙ c.if-is_saved.false in
    readied_saves _ some c.in-Ok.ensures.done c.in-Ok.ensures.totals

pub returns-in-Err-clause-full : goal.returns-in-Err-clause-full
returns-in-Err-clause-full g c is =
    let full = c.in-Err.ensures.full (search rules) in
    (full.0, full.1, sym c.is_saved.ensures.value ∙ c.if-is_saved.false)

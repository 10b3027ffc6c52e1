use Rattle.std.proofs.Common.{subst}
use Rattle.lfs_cleaner.specs.log.verify.declared.totals.BlockTotals.{BlockTotals}
use Rattle.lfs_store.specs.Recounting.{Recounts}
use Rattle.lfs_store.proofs.Endings.{exit_is}
use Rattle.lfs_cleaner.proofs.of_log.LogReads.{fault_more}
use Rattle.lfs_store.proofs.Recounted.{gone_counts, kept_read, kept_more, removed_more}
use Rattle.lfs_store.proofs.store.Store.forget.Goals as goal

pub returns-in_err-before-clause-kept : goal.returns-in_err-before-clause-kept
returns-in_err-before-clause-kept g c =
    rw (exit_is c.from_residual.ensures) (kept_read c.measure.ensures.reads.log)

pub returns-in_err-remove-clause-kept : goal.returns-in_err-remove-clause-kept
returns-in_err-remove-clause-kept g c =
    rw (exit_is c.from_residual-in_err-remove.ensures) (kept_more
    (g.met.D.SectorDevice.lawful _) c.measure.ensures.reads.log c.in_err-remove.ensures.kept)

pub returns-in_err-remove-clause-failed : goal.returns-in_err-remove-clause-failed
returns-in_err-remove-clause-failed g c =
    rw (exit_is c.from_residual-in_err-remove.ensures) (fault_more _ c.remove.new.self
    c.measure.ensures.reads.log c.in_err-remove.ensures.failed)

pub returns-clause-done : goal.returns-clause-done
returns-clause-done g c =
    removed_more (g.met.D.SectorDevice.lawful _) c.measure.ensures.reads.log c.in_ok-remove.ensures.done

pub returns-clause-counted : goal.returns-clause-counted
returns-clause-counted g c =
    let recounts = subst (λ (t : BlockTotals). Recounts t c.recounted-totals.result c.in_ok-before.before
    (record { data_blocks = 0; meta_blocks = 0 })) (cc) c.recounted-totals.ensures in
    rw c.in_ok-remove.ensures.counted (gone_counts _
    c.args.number.some c.args.number.few c.requires.empty c.measure.ensures.reads.log c.in_ok-before.ensures.answer
    c.in_ok-remove.ensures.done.alters recounts)

pub returns-clause-stores : goal.returns-clause-stores
returns-clause-stores g c k m0 m keeps is off =
    (removed_more (g.met.D.SectorDevice.lawful _) c.measure.ensures.reads.log c.in_ok-remove.ensures.done).holds k m0 m keeps is

use Rattle.std.proofs.Common.{arith}
use Rattle.lfs_store.proofs.Between.{counts_between, shrinks_between}
use Rattle.lfs_store.proofs.Endings.{exit_is}
use Rattle.lfs_store.proofs.Keepings.{counted_fault, counted_redrafts, measured_fault, measured_redrafts, reads_redrafts}
use Rattle.lfs_store.proofs.StoreSeen.{seen_fault}
use Rattle.lfs_store.proofs.store.Store.shrink.Goals as goal

pub returns-in-Err-clause-redrafts : goal.returns-in-Err-clause-redrafts
returns-in-Err-clause-redrafts g c =
    reads_redrafts c.measure.ensures.reads

pub returns-in_err-draft_shrink-clause-redrafts : goal.returns-in_err-draft_shrink-clause-redrafts
returns-in_err-draft_shrink-clause-redrafts g c =
    measured_redrafts (g.met.D.SectorDevice.lawful _) c.measure.ensures.reads c.draft_shrink.ensures.redrafts

pub returns-in-Err-clause-failed : goal.returns-in-Err-clause-failed
returns-in-Err-clause-failed g c other =
    seen_fault _ c.args.self.now c.measure.new.self c.in-Err.ensures.failed

pub returns-in_err-draft_shrink-clause-failed : goal.returns-in_err-draft_shrink-clause-failed
returns-in_err-draft_shrink-clause-failed g c =
    rw (exit_is c.from_residual.ensures)
    (λ other. measured_fault c.draft_shrink.new.self c.measure.ensures.reads (c.in_err-draft_shrink.ensures.failed other))

pub returns-in-Err-recount-clause-redrafts : goal.returns-in-Err-recount-clause-redrafts
returns-in-Err-recount-clause-redrafts g c =
    counted_redrafts (g.met.D.SectorDevice.lawful _) c.measure.ensures.reads c.draft_shrink.ensures.redrafts c.recount.ensures.counts

pub returns-in-Ok-recount-clause-redrafts : goal.returns-in-Ok-recount-clause-redrafts
returns-in-Ok-recount-clause-redrafts g c =
    counted_redrafts (g.met.D.SectorDevice.lawful _) c.measure.ensures.reads c.draft_shrink.ensures.redrafts c.recount.ensures.counts

pub returns-in-Err-recount-clause-failed : goal.returns-in-Err-recount-clause-failed
returns-in-Err-recount-clause-failed g c other =
    counted_fault c.recount.new.self (g.met.D.SectorDevice.lawful _) c.measure.ensures.reads c.draft_shrink.ensures.redrafts
    c.in-Err-recount.ensures.failed

pub returns-in-Ok-recount-clause-done : goal.returns-in-Ok-recount-clause-done
returns-in-Ok-recount-clause-done g c =
    shrinks_between c.measure.ensures.reads c.recount.ensures.counts c.in_ok-draft_shrink.ensures.done

pub returns-in-Ok-recount-clause-counted : goal.returns-in-Ok-recount-clause-counted
returns-in-Ok-recount-clause-counted g c =
    counts_between c.measure.ensures.reads c.recount.ensures.counts
    c.args.number.some c.args.number.few (omega arith) (omega arith) c.in-Ok.ensures.answer
    c.draft_shrink.ensures.redrafts c.in-Ok-recount.ensures.done (λ m m' keeps has. c.in_ok-draft_shrink.ensures.only m m' has)

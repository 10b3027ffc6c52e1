use Rattle.std.proofs.Common.{arith}
use Rattle.lfs_cleaner.proofs.of_log.of_memory.Going.{err_then, ok_then, on_err}
use Rattle.lfs_store.proofs.Acceptings.{where_ok}
use Rattle.lfs_store.proofs.StoreSeen.{seen_fault}
use Rattle.lfs_store.proofs.Keepings.{counted_fault, counted_redrafts, drafts_uncounted, reads_redrafts}
use Rattle.lfs_store.proofs.Between.{counts_between, removed_file, removes_between}
use Rattle.lfs_store.proofs.store.Store.remove.Goals as goal

pub returns-in_err-before-clause-redrafts : goal.returns-in_err-before-clause-redrafts
returns-in_err-before-clause-redrafts g c =
    reads_redrafts c.measure.ensures.reads

pub returns-clause-redrafts : goal.returns-clause-redrafts
returns-clause-redrafts g c =
    counted_redrafts (g.met.D.SectorDevice.lawful _) c.measure.ensures.reads
    (drafts_uncounted c.lose_file.ensures.keeps) c.recount.ensures.counts

pub returns-in_err-before-clause-failed : goal.returns-in_err-before-clause-failed
returns-in_err-before-clause-failed g c =
    on_err _ _ (seen_fault _ c.args.self.now c.measure.new.self c.in_err-before.ensures.failed)

pub returns-clause-failed : goal.returns-clause-failed
returns-clause-failed g c =
    err_then _ _ _ (counted_fault c.recount.new.self
    (g.met.D.SectorDevice.lawful _) c.measure.ensures.reads (drafts_uncounted c.lose_file.ensures.keeps)) c.recount.ensures.failed

pub returns-clause-done : goal.returns-clause-done
returns-clause-done g c =
    where_ok _ _ (removes_between c.measure.ensures.reads c.recount.ensures.counts c.lose_file.ensures.done)

pub returns-clause-counted : goal.returns-clause-counted
returns-clause-counted g c =
    ok_then _ _ _
    (λ again. counts_between c.measure.ensures.reads c.recount.ensures.counts c.args.number.some
    c.args.number.few (omega arith) (omega arith) c.in_ok-before.ensures.answer (drafts_uncounted c.lose_file.ensures.keeps) again
    (λ m m' keeps has. removed_file _ (c.lose_file.ensures.done.has m m' has))) c.recount.ensures.done

use Rattle.std.proofs.Common.{rules, ◌≡◌, arith}
use Rattle.lfs_model.specs.Objects.{is_stored}
use Rattle.lfs_store.proofs.Endings.{exit_is}
use Rattle.lfs_store.proofs.Keepings.{looked_done, looked_fails}
use Rattle.lfs_store.proofs.Measured.{log_count, counted_more, counted_none, counts_stored}
use Rattle.lfs_store.proofs.measuring.count_stored.Goals as goal

pub returns-then-not-changes_blocks-clause-reads : goal.returns-then-not-changes_blocks-clause-reads
returns-then-not-changes_blocks-clause-reads g c =
    c.count_blocks.ensures.keeps

pub returns-then-not-changes_blocks-clause-answer : goal.returns-then-not-changes_blocks-clause-answer
returns-then-not-changes_blocks-clause-answer g c =
    log_count g.D.SectorDevice.state c.args.log.now c.count_blocks.new.self c.args.draft.now.changes _
    _ (c.if-not-changes_blocks.ensures (search rules)) c.count_blocks.ensures.answer

pub returns-in_err-is_stored-clause-reads : goal.returns-in_err-is_stored-clause-reads
returns-in_err-is_stored-clause-reads g c =
    rw (exit_is c.from_residual.ensures)
    (looked_fails _ _ (g.met.D.SectorDevice.lawful _) c.loop-index.invariant.reads c.in_err-is_stored.ensures.reads)

pub loop-index-init : goal.loop-index-init
loop-index-init g c =
    counted_none (λ m. is_stored m _)

pub loop-index-preserved : goal.loop-index-preserved
loop-index-preserved g c =
    counted_more (λ m. is_stored m _) (g.met.D.SectorDevice.lawful _) c.loop-index.invariant c.is_stored.ensures.reads.reads _ _ (cc)
    c.in_ok-is_stored.ensures.answer

pub returns-clause-reads : goal.returns-clause-reads
returns-clause-reads g c =
    looked_done c.loop-index.invariant.reads

pub returns-clause-answer : goal.returns-clause-answer
returns-clause-answer g c =
    let at_end : c.loop-index.index ≡ c.args.to = omega (arith, c.loop-index.auto.index-end c.requires.order) in
    counts_stored _ at_end c.loop-index.invariant

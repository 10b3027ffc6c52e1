use Rattle.std.proofs.Common.{rules, Bool, refl, subst}
use Rattle.lfs_store.specs.Measuring.{TellsStored}
use Rattle.lfs_store.proofs.Endings.{exit_is}
use Rattle.lfs_store.proofs.Keepings.{looked_done, looked_fails}
use Rattle.lfs_cleaner.proofs.of_log.LogReads.{reads_more, reads_none}
use Rattle.lfs_store.proofs.Measured.{log_leaf, searched_none, searched_more, leaf_found, leaf_empty}
use Rattle.lfs_store.proofs.measuring.has_leaf.Goals as goal

pub returns-then-stores_leaf-clause-reads : goal.returns-then-stores_leaf-clause-reads
returns-then-stores_leaf-clause-reads g c =
    looked_done (reads_none _ _)

pub returns-then-stores_leaf-clause-answer : goal.returns-then-stores_leaf-clause-answer
returns-then-stores_leaf-clause-answer g c k m0 m keeps is = c.stores_leaf.ensures c.if-stores_leaf.true m

pub returns-then-not-changes_blocks-clause-reads : goal.returns-then-not-changes_blocks-clause-reads
returns-then-not-changes_blocks-clause-reads g c =
    c.has_leaf.ensures.keeps

pub returns-then-not-changes_blocks-clause-answer : goal.returns-then-not-changes_blocks-clause-answer
returns-then-not-changes_blocks-clause-answer g c =
    log_leaf g.D.SectorDevice.state c.args.log.now c.has_leaf.new.self c.args.draft.now.changes _ _
    _ (c.if-not-changes_blocks.ensures (search rules)) c.has_leaf.ensures.answer

pub loop-index-init : goal.loop-index-init
loop-index-init g c =
    searched_none

pub returns-in_err-is_stored-clause-reads : goal.returns-in_err-is_stored-clause-reads
returns-in_err-is_stored-clause-reads g c =
    rw (exit_is c.from_residual.ensures)
    (looked_fails _ _ (g.met.D.SectorDevice.lawful _) c.loop-index.invariant.reads c.in_err-is_stored.ensures.reads)

pub loop-index-preserved : goal.loop-index-preserved
loop-index-preserved g c =
    let tells = subst (λ (b : Bool). TellsStored g.D.SectorDevice.state c.loop-index.log c.is_stored.new.log c.args.draft.now.changes
    c.args.number.value c.loop-index.index b) c.if-branch.false c.in_ok-is_stored.ensures.answer in
    searched_more (g.met.D.SectorDevice.lawful _) c.loop-index.invariant c.is_stored.ensures.reads.reads tells

pub returns-then-branch-clause-reads : goal.returns-then-branch-clause-reads
returns-then-branch-clause-reads g c =
    looked_done (reads_more _ (g.met.D.SectorDevice.lawful _) c.loop-index.invariant.reads c.is_stored.ensures.reads.reads)

pub returns-then-branch-clause-answer : goal.returns-then-branch-clause-answer
returns-then-branch-clause-answer g c =
    let tells = subst (λ (b : Bool). TellsStored g.D.SectorDevice.state c.loop-index.log c.is_stored.new.log c.args.draft.now.changes
    c.args.number.value c.loop-index.index b) c.if-branch.true c.in_ok-is_stored.ensures.answer in
    leaf_found (g.met.D.SectorDevice.lawful _) c.loop-index.invariant c.is_stored.ensures.reads.reads _ refl
    c.loop-index.auto.index c.loop-index-test.true tells

pub returns-clause-reads : goal.returns-clause-reads
returns-clause-reads g c =
    looked_done c.loop-index.invariant.reads

pub returns-clause-answer : goal.returns-clause-answer
returns-clause-answer g c =
    leaf_empty _ refl c.loop-index-test.false c.loop-index.invariant

use Rattle.std.proofs.Common.{rules, Bool, refl, subst, arith}
use Rattle.lfs_model.specs.Objects.{has_leaf}
use Rattle.lfs_store.specs.Measuring.{TellsLeaf}
use Rattle.lfs_store.proofs.Endings.{exit_is}
use Rattle.lfs_store.proofs.Keepings.{looked_done, looked_fails}
use Rattle.lfs_cleaner.proofs.of_log.LogReads.{reads_more}
use Rattle.lfs_store.proofs.Measured.{counted_more, counted_none, log_double}
use Rattle.lfs_store.proofs.Measures.{double_missed, double_told}
use Rattle.lfs_store.proofs.Pointers.{leaves_cover}
use Rattle.lfs_store.proofs.measuring.has_double.Goals as goal

pub returns-then-not-changes_blocks-clause-reads : goal.returns-then-not-changes_blocks-clause-reads
returns-then-not-changes_blocks-clause-reads g c =
    c.has_double.ensures.keeps

pub returns-then-not-changes_blocks-clause-answer : goal.returns-then-not-changes_blocks-clause-answer
returns-then-not-changes_blocks-clause-answer g c =
    log_double g.D.SectorDevice.state c.args.log.now c.has_double.new.self c.args.draft.now.changes _ c.args.size
    _ (c.if-not-changes_blocks.ensures (search rules)) c.has_double.ensures.answer

pub returns-in_err-has_leaf-clause-reads : goal.returns-in_err-has_leaf-clause-reads
returns-in_err-has_leaf-clause-reads g c =
    rw (exit_is c.from_residual.ensures)
    (looked_fails _ _ (g.met.D.SectorDevice.lawful _) c.loop-leaf.invariant.reads c.in_err-has_leaf.ensures.reads)

pub loop-leaf-init : goal.loop-leaf-init
loop-leaf-init g c = counted_none (λ m. has_leaf m _)

pub loop-leaf-preserved : goal.loop-leaf-preserved
loop-leaf-preserved g c =
    let tells = subst (λ (b : Bool). TellsLeaf g.D.SectorDevice.state c.loop-leaf.log c.has_leaf.new.log c.args.draft.now.changes
    c.args.number.value c.loop-leaf.leaf b) c.if-branch.false c.in_ok-has_leaf.ensures.answer in
    counted_more (λ m. has_leaf m _) (g.met.D.SectorDevice.lawful _) c.loop-leaf.invariant c.has_leaf.ensures.reads.reads _ _ refl tells

pub returns-then-branch-clause-reads : goal.returns-then-branch-clause-reads
returns-then-branch-clause-reads g c =
    looked_done (reads_more _ (g.met.D.SectorDevice.lawful _) c.loop-leaf.invariant.reads c.has_leaf.ensures.reads.reads)

pub returns-then-branch-clause-answer : goal.returns-then-branch-clause-answer
returns-then-branch-clause-answer g c =
    let tells = subst (λ (b : Bool). TellsLeaf g.D.SectorDevice.state c.loop-leaf.log c.has_leaf.new.log c.args.draft.now.changes
    c.args.number.value c.loop-leaf.leaf b) c.if-branch.true c.in_ok-has_leaf.ensures.answer in
    double_told _ c.args.draft.now.changes c.args.number.value c.has_leaf.new.log _ c.loop-leaf.invariant.reads c.loop-leaf.auto.leaf
    (omega arith) tells

pub returns-clause-reads : goal.returns-clause-reads
returns-clause-reads g c =
    looked_done c.loop-leaf.invariant.reads

pub returns-clause-answer : goal.returns-clause-answer
returns-clause-answer g c =
    let past = leaves_cover c.args.size c.div_ceil-blocks.ensures (cc) c.min-end.ensures in
    double_missed _ c.args.draft.now.changes c.args.number.value c.args.size c.min-end.result past (omega arith)
    (omega (arith, c.loop-leaf.auto.leaf-end (omega arith))) c.loop-leaf.invariant

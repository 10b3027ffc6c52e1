use Rattle.std.proofs.Common.{◌≡◌, arith}
use Rattle.lfs_model.specs.Objects.{has_leaf}
use Rattle.lfs_store.proofs.Endings.{exit_is}
use Rattle.lfs_store.proofs.Keepings.{looked_done, looked_fails}
use Rattle.lfs_store.proofs.Measured.{counted_more, counted_none, counts_leaves}
use Rattle.lfs_store.proofs.measuring.count_leaves.Goals as goal

pub returns-in_err-has_leaf-clause-reads : goal.returns-in_err-has_leaf-clause-reads
returns-in_err-has_leaf-clause-reads g c =
    rw (exit_is c.from_residual.ensures)
    (looked_fails _ _ (g.met.D.SectorDevice.lawful _) c.loop-leaf.invariant.reads c.in_err-has_leaf.ensures.reads)

pub loop-leaf-init : goal.loop-leaf-init
loop-leaf-init g c =
    counted_none (λ m. has_leaf m _)

pub loop-leaf-preserved : goal.loop-leaf-preserved
loop-leaf-preserved g c =
    counted_more (λ m. has_leaf m _) (g.met.D.SectorDevice.lawful _) c.loop-leaf.invariant c.has_leaf.ensures.reads.reads _ _ (cc)
    c.in_ok-has_leaf.ensures.answer

pub returns-clause-reads : goal.returns-clause-reads
returns-clause-reads g c =
    looked_done c.loop-leaf.invariant.reads

pub returns-clause-answer : goal.returns-clause-answer
returns-clause-answer g c =
    let at_end : c.loop-leaf.leaf ≡ c.args.to = omega (arith, c.loop-leaf.auto.leaf-end c.requires.order) in
    counts_leaves _ at_end c.loop-leaf.invariant

use Rattle.std.proofs.Common.{List, ℕ, sym, subst, arith}
use Rattle.lfs_device.specs.Unsynced.{IsUnsyncedList}
use Rattle.lfs_device.proofs.UnsyncedLists.{settling_begins, settling_ends, settling_next, settling_within}
use Rattle.lfs_device.proofs.unsynced.settle.Goals as goal

pub loop-sector-init : goal.loop-sector-init
loop-sector-init c =
    settling_begins (subst (λ (l : List ℕ). IsUnsyncedList l c.args.rows.now.items) (sym c.deref-sector-items.ensures.value) c.requires)

pub index_mut-row-requires : goal.index_mut-row-requires
index_mut-row-requires c =
    let within = settling_within
    (subst (λ (l : List ℕ). IsUnsyncedList l c.args.rows.now.items) (sym c.deref-sector-items.ensures.value) c.requires)
    c.loop-sector.invariant c.loop-sector-test.true in
    let long = c.loop-sector.rows.ok in
    omega (arith, within, long)

pub loop-sector-preserved : goal.loop-sector-preserved
loop-sector-preserved c =
    settling_next (subst (λ (l : List ℕ). IsUnsyncedList l c.args.rows.now.items) (sym c.deref-sector-items.ensures.value) c.requires)
    c.loop-sector.invariant c.loop-sector-test.true c.index_mut-row.ensures.value c.stands.ensures

pub returns-clause-rows : goal.returns-clause-rows
returns-clause-rows c =
    let t = c.loop-sector-test.false in
    settling_ends (subst (λ (l : List ℕ). IsUnsyncedList l c.args.rows.now.items) (sym c.deref-sector-items.ensures.value) c.requires)
    c.loop-sector.invariant (omega (arith, t))

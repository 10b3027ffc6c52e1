use Rattle.std.proofs.Common.{◌<◌, All, length, sym, subst, arith, ◌∙◌}
use Rattle.lfs_device.proofs.Spoiling.{spoiling_ends, spoiling_loses, spoiling_passes}
use Rattle.lfs_device.proofs.units.spoil.Goals as goal
use Rattle.lfs_device.proofs.units.spoil.Goals.{then-is_some, else-is_some}

pub loop-sector-preserved : goal.loop-sector-preserved
loop-sector-preserved c =
    let within = subst (All (λ s. s < length c.args.rows.now.items)) (sym c.deref-sector-items.ensures.value) c.requires.within in
    elim c.if-is_some.branch [
      | then-is_some w ↦ rw w.rows-is (spoiling_loses _ c.loop-sector.invariant within c.loop-sector-test.true c.index.ensures
          (sym c.is_some.ensures ∙ w.if-is_some.true) w.lose_unit.ensures)
      | else-is_some w ↦ rw w.rows-is (spoiling_passes _ c.loop-sector.invariant within c.loop-sector-test.true c.index.ensures
          (sym c.is_some.ensures ∙ w.if-is_some.false))
    ]

pub returns : goal.returns
returns c = let past = c.loop-sector-test.false in spoiling_ends _ c.loop-sector.invariant (omega (arith, past))

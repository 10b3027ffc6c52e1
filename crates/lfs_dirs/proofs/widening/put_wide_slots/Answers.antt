use Rattle.std.proofs.Common.{arith}
use Rattle.lfs_dirs.proofs.Widenings.{wide_begins, wide_goes_on, wide_ends}
use Rattle.lfs_dirs.proofs.widening.put_wide_slots.Goals as goal

pub loop-place-init : goal.loop-place-init
loop-place-init c = (omega arith, wide_begins c.args.form c.args.block.now c.args.count c.args.slots.now.items)

pub loop-place-preserved : goal.loop-place-preserved
loop-place-preserved c = (
  omega (arith, c.loop-place.invariant.0, c.in_ok-put_wide_slot.ensures.long),
  wide_goes_on c.args.form c.args.block.now c.args.count c.put_wide_slot.new.slots.items
      c.loop-place-test.true c.nth_slot.ensures.bytes c.loop-place.invariant.1 c.in_ok-put_wide_slot.ensures.done
      c.in_ok-put_wide_slot.ensures.formed,
)

pub returns-clause-long : goal.returns-clause-long
returns-clause-long c = omega arith

pub returns-clause-done : goal.returns-clause-done
returns-clause-done c = wide_ends c.args.form c.args.block.now c.args.count c.loop-place-test.false c.loop-place.invariant.1

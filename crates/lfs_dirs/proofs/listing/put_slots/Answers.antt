use Rattle.std.proofs.Common.{◌-◌, arith, refl}
use Rattle.lfs_dirs.proofs.Lists.{puts_none, puts_more}
use Rattle.lfs_dirs.proofs.listing.put_slots.Goals as goal

pub loop-place-init : goal.loop-place-init
loop-place-init c = (omega arith, puts_none c.args.form c.args.block.now c.args.count c.args.entries.now.items)

pub loop-place-preserved : goal.loop-place-preserved
loop-place-preserved c = (
  omega arith,
  puts_more c.args.form c.args.block.now c.args.count c.loop-place.place
      (c.loop-place.place - 1) c.args.entries.now.items c.loop-place.entries.items c.put_slot.new.entries.items
      c.loop-place-test.true c.loop-place.invariant.0 refl c.nth_slot.ensures.bytes c.loop-place.invariant.1
      c.in_ok-put_slot.ensures.done
      c.in_ok-put_slot.ensures.formed,
)

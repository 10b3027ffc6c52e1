use Rattle.std.proofs.Common.{◌-◌, arith, refl}
use Rattle.lfs_tree.proofs.GoodSlots.{slots_begin, slots_fail, slots_go_on}
use Rattle.lfs_tree.proofs.slots.take_slots.Goals as goal

pub loop-place-init : goal.loop-place-init
loop-place-init c = record {
  low = omega arith;
  takes = slots_begin c.args.form c.args.headers.now c.args.directory.value c.args.block.now c.args.count c.args.names.now
      c.args.tables.now;
}

pub returns-then-not-branch : goal.returns-then-not-branch
returns-then-not-branch c =
    slots_fail c.args.form c.args.headers.now c.args.directory.value c.args.block.now c.args.count c.args.names.now c.args.tables.now
    c.loop-place.place (c.loop-place.place - 1) c.loop-place-test.true c.loop-place.invariant.low refl c.nth_slot.ensures.bytes
    c.loop-place.names c.take_slot.new.names c.loop-place.tables c.take_slot.new.tables c.loop-place.invariant.takes
    (rw c.if-not-branch.true at c.in_ok-take_slot.ensures)

pub loop-place-preserved : goal.loop-place-preserved
loop-place-preserved c =
    record {
      low = omega arith;
      takes =
          slots_go_on c.args.form c.args.headers.now c.args.directory.value c.args.block.now c.args.count c.args.names.now c.args.tables.now
          c.loop-place.place (c.loop-place.place - 1) c.loop-place-test.true c.loop-place.invariant.low refl c.nth_slot.ensures.bytes
          c.loop-place.names c.take_slot.new.names c.loop-place.tables c.take_slot.new.tables c.loop-place.invariant.takes
          (rw c.if-not-branch.false at c.in_ok-take_slot.ensures);
    }

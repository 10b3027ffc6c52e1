use Rattle.std.proofs.Common.{◌∙◌, refl, arith}
use Rattle.lfs_memory.specs.inodes.Key.{entry_of}
use Rattle.lfs_log.specs.Groups.{IsClosedLeaf}
use Rattle.lfs_log.proofs.GroupOrder.{above_alone}
use Rattle.lfs_log.proofs.Movings.{cleanable_after, ends_done, ends_halted, halts_behind}
use Rattle.lfs_log.proofs.Movings.{halts_saving, moved_join, moved_lifted, moved_none}
use Rattle.lfs_log.proofs.Movings.{moved_out, moved_saved, moved_then, on_then, placed_outside, relocates_still, volume_after}
use Rattle.lfs_log.proofs.moving.put_leaves.Goals as goal

pub loop-key-init : goal.loop-key-init
loop-key-init g c = record {
  moved = moved_lifted (g.met.D.SectorDevice.lawful c.args.device.now) (relocates_still c.args.memory.now c.requires.memory)
      c.are_in_order.ensures refl (omega arith) (λ k m0 m keeps is. is);
  on = λ k m0 m keeps is. (is, moved_none c.args.left c.args.at_group (omega arith) is.running.memory);
  no_failure = refl;
  waits = c.requires.waits;
}

pub save_block-requires-clause-room : goal.save_block-requires-clause-room
save_block-requires-clause-room g c =
    let some = c.in-Some.ensures.first.within in
    let room = c.loop-key.invariant.moved.room in
    let spare = c.requires.spare in
    omega (arith, some, room, spare)

pub save_block-requires-clause-memory : goal.save_block-requires-clause-memory
save_block-requires-clause-memory g c = c.loop-key.invariant.moved.memory

pub save_block-requires-clause-size : goal.save_block-requires-clause-size
save_block-requires-clause-size g c = volume_after c.loop-key.invariant.moved c.requires.size

pub loop-key-preserved : goal.loop-key-preserved
loop-key-preserved g c =
    let x = entry_of c.in-Some.key in
    let closed : IsClosedLeaf c.args.at_group x = c.if-not-is_closed_leaf.ensures.yes refl in
    record {
      moved = moved_then c.loop-key.invariant.moved (moved_saved c.args.left c.in-Ok.ensures.saves.done c.in-Ok.ensures.fewer
          c.in-Ok.ensures.capacity c.are_in_order-in-Ok.ensures c.save_block.ensures.kept c.in-Ok.ensures.cleanable c.in-Ok.ensures.spares);
      on = on_then c.in-Ok.ensures.saves.done.goes.carries.kept_before
          (λ M M' M'' r out. moved_join r (moved_out c.args.left c.args.at_group (omega arith) closed.1 out.0
          (placed_outside c.loop-key.memory c.save_block.new.memory c.args.victims.now (M''.at x)
          (cleanable_after c.args.victims.now c.loop-key.invariant.moved c.requires.victims) c.in-Ok.ensures.cleanable out.1)))
          c.loop-key.invariant.on c.in-Ok.ensures.moves;
      no_failure = c.in-Ok.ensures.saves.done.goes.no_failure ∙ c.loop-key.invariant.no_failure;
      waits = λ y is. c.loop-key.invariant.waits y (c.in-Ok.ensures.out.only y is);
    }

pub returns-in-Err-clause-ends : goal.returns-in-Err-clause-ends
returns-in-Err-clause-ends g c =
    ends_halted (halts_behind c.loop-key.invariant.moved
    (halts_saving c.args.left (let some = c.in-Some.ensures.first.within in omega (arith, some)) c.in-Err.ensures.saves.stopped))

pub returns-then-not-is_closed_leaf-clause-ends : goal.returns-then-not-is_closed_leaf-clause-ends
returns-then-not-is_closed_leaf-clause-ends g c =
    ends_done c.loop-key.invariant.moved c.loop-key.invariant.on c.loop-key.invariant.no_failure

pub returns-then-not-is_closed_leaf-clause-alone : goal.returns-then-not-is_closed_leaf-clause-alone
returns-then-not-is_closed_leaf-clause-alone g c =
    let low = c.in-Some.ensures.lowest in
    above_alone c.loop-key.memory c.args.at_group c.in-Some.key.code c.loop-key.invariant.moved.order c.in-Some.ensures.first
    (c.loop-key.invariant.waits (entry_of c.in-Some.key) (low.bytes, low.there)) (c.if-not-is_closed_leaf.ensures.no refl)
    c.loop-key.invariant.waits

pub returns-clause-ends : goal.returns-clause-ends
returns-clause-ends g c = ends_done c.loop-key.invariant.moved c.loop-key.invariant.on c.loop-key.invariant.no_failure

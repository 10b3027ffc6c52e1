use Rattle.std.proofs.Common.{rules, length, sym, ap, subst, arith}
use Rattle.lfs_memory.specs.declared.memory.LogMemory.{LogMemory}
use Rattle.lfs_memory.specs.inodes.Blocks.{TableValue}
use Rattle.lfs_memory.specs.inodes.Key.{entry_of}
use Rattle.lfs_memory.proofs.of_inodes.Codes.{of_file}
use Rattle.lfs_log.specs.Moving.{IsStored}
use Rattle.lfs_log.specs.Relocating.{IsInOrder}
use Rattle.lfs_log.proofs.Movings.{comes_new, ends_done, ends_failed, ends_full, lift_failed, log_kept, moved_lifted, none_stored}
use Rattle.lfs_log.proofs.Movings.{relocates_still, stands_outside}
use Rattle.lfs_log.proofs.moving.bring_one.Goals as goal

pub returns-then-left-eq0-clause-ends : goal.returns-then-left-eq0-clause-ends
returns-then-left-eq0-clause-ends g c =
    ends_full (moved_lifted (g.met.D.SectorDevice.lawful c.args.device.now) (relocates_still c.args.memory.now c.requires.memory)
    c.are_in_order.ensures (search rules) (omega arith) (λ k m0 m keeps is. is))
    (λ k m0 m keeps is stored. (
      c.if-left-eq0.true,
      stands_outside c.args.memory.now is (entry_of c.args.key) (of_file c.args.key.code) c.requires.outside stored,
    ))

pub returns-in-Ok-true-clause-ends : goal.returns-in-Ok-true-clause-ends
returns-in-Ok-true-clause-ends g c =
    let x = entry_of c.args.key in
    let moves = comes_new (g.D.SectorDevice.state c.args.device.now) (g.D.SectorDevice.state c.lift_block.new.device) c.args.memory.now
    c.lift_block.new.memory x (c.in-Ok-true.ensures.comes (search rules)) (c.in-Ok-true.ensures.brings.inside (search rules))
    c.requires.outside in
    let more = c.lift_block.ensures.more in
    let some = c.if-left-eq0.false in
    ends_done (moved_lifted (g.met.D.SectorDevice.lawful c.args.device.now) c.lift_block.ensures.brings.relocates
    c.are_in_order-in-Ok-true.ensures c.lift_block.ensures.last (omega (arith, more, some))
    (λ k m0 m keeps is. (moves k m0 m keeps is).0))
    (λ k m0 m keeps is. (let now = moves k m0 m keeps is in (now.0, (now.1, omega (arith, some)))))
    c.in-Ok-true.ensures.brings.ends.no_failure

pub returns-in-Ok-false-clause-ends : goal.returns-in-Ok-false-clause-ends
returns-in-Ok-false-clause-ends g c =
    let same = c.in-Ok-false.ensures.same (search rules) in
    let dirty = ap (λ (v : LogMemory). v.dirty) same in
    let more = ap (λ (v : LogMemory). length v.dirty.blocks) same in
    let one = c.lift_block.ensures.brings.relocates in
    ends_failed (moved_lifted (g.met.D.SectorDevice.lawful c.args.device.now) one
    (subst (λ (v : LogMemory). IsInOrder v.dirty) (sym same) c.are_in_order.ensures) c.lift_block.ensures.last (omega (arith, more))
    (log_kept one dirty))
    (none_stored (g.D.SectorDevice.state c.args.device.now) (g.D.SectorDevice.state c.lift_block.new.device) c.args.memory.now
    c.lift_block.new.memory (entry_of c.args.key) one.looks same (c.in-Ok-false.ensures.brings.none (search rules)))

pub returns-in-Err-clause-ends : goal.returns-in-Err-clause-ends
returns-in-Err-clause-ends g c =
    let dirty = c.in-Err.ensures.kept in
    let more = ap (λ (t : TableValue). length t.blocks) dirty in
    let one = c.lift_block.ensures.brings.relocates in
    ends_failed (moved_lifted (g.met.D.SectorDevice.lawful c.args.device.now) one c.are_in_order-in-Err.ensures
    c.lift_block.ensures.last (omega (arith, more)) (log_kept one dirty))
    (lift_failed (g.D.SectorDevice.state c.args.device.now) (g.D.SectorDevice.state c.lift_block.new.device) c.args.memory.now
    c.lift_block.new.memory (IsStored (entry_of c.args.key)) c.in-Err.field-0 c.in-Err.ensures.brings.ends dirty c.requires.room)

use Rattle.std.proofs.Common.{length, refl, ap, arith}
use Rattle.lfs_memory.specs.inodes.Blocks.{TableValue}
use Rattle.lfs_log.proofs.Movings.{cleanable_after, done_then, ends_failed, fails_then, log_kept, loose_of, moved_lifted, moved_then}
use Rattle.lfs_log.proofs.WayOut.{Listed, all_out, emptied_out, lists_on, out_before}
use Rattle.lfs_log.proofs.vacating.vacate.Goals as goal

pub returns-in-Err-clause-ends : goal.returns-in-Err-clause-ends
returns-in-Err-clause-ends g c =
    let dirty = c.collect_keys.ensures.dirty in
    let same = ap (λ (t : TableValue). length t.blocks) dirty in
    ends_failed (moved_lifted (g.met.D.SectorDevice.lawful c.args.device.now) c.collect_keys.ensures.relocates
    c.are_in_order-in-Err.ensures c.collect_keys.ensures.last (omega (arith, same)) (log_kept c.collect_keys.ensures.relocates dirty))
    (λ k m0 m keeps is p. c.in-Err.ensures.failed k m0 m keeps (loose_of is))

pub returns-in_err-move_blocks-clause-ends : goal.returns-in_err-move_blocks-clause-ends
returns-in_err-move_blocks-clause-ends g c =
    let victims = c.args.victims.now in
    let keys = c.sort.new.self.keys in
    let dirty = c.collect_keys.ensures.dirty in
    let same = ap (λ (t : TableValue). length t.blocks) dirty in
    let first = moved_lifted {left = c.args.most} {left' = c.args.most} (g.met.D.SectorDevice.lawful c.args.device.now)
    c.collect_keys.ensures.relocates c.are_in_order.ensures c.collect_keys.ensures.last (omega (arith, same))
    (log_kept c.collect_keys.ensures.relocates dirty) in
    fails_then first (Listed victims keys) c.from_residual.result c.in_err-move_blocks.field-0.0 c.from_residual.ensures
    (lists_on (g.D.SectorDevice.state c.args.device.now) (g.D.SectorDevice.state c.collect_keys.new.device) c.args.pass.now
    c.collect_keys.new.memory victims c.collect_keys.new.keys.keys keys c.in-Ok.ensures.lists c.sort.ensures.moved dirty)
    c.in-Ok.ensures.no_failure (λ k m0 m is is' r p. tt)
    (λ k m0 m is M' r p lacks. out_before victims c.args.most is.running.memory M' r.0 lacks) c.in_err-move_blocks.ensures.ends

pub returns-then-not-are_emptied-clause-ends : goal.returns-then-not-are_emptied-clause-ends
returns-then-not-are_emptied-clause-ends g c =
    let victims = c.args.victims.now in
    let keys = c.sort.new.self.keys in
    let dirty = c.collect_keys.ensures.dirty in
    let same = ap (λ (t : TableValue). length t.blocks) dirty in
    let two = c.in_ok-move_blocks.ensures.ends in
    let both = moved_then (moved_lifted {left = c.args.most} {left' = c.args.most} (g.met.D.SectorDevice.lawful c.args.device.now)
    c.collect_keys.ensures.relocates c.are_in_order.ensures c.collect_keys.ensures.last (omega (arith, same))
    (log_kept c.collect_keys.ensures.relocates dirty)) (two.moves (λ is. absurd (cc))) in
    ends_failed both (λ k m0 m keeps is p.
    let middle = lists_on (g.D.SectorDevice.state c.args.device.now) (g.D.SectorDevice.state c.collect_keys.new.device) c.args.pass.now
    c.collect_keys.new.memory victims c.collect_keys.new.keys.keys keys c.in-Ok.ensures.lists c.sort.ensures.moved dirty
    k m0 m (two.carries.kept_before keeps) is in
    let end = two.done k m0 m keeps middle.0 in
    absurd (c.if-not-are_emptied.ensures.no refl (emptied_out c.move_blocks.new.memory end.0 victims
    (cleanable_after victims both c.requires.victims)
    (all_out victims keys is.running.memory middle.0.running.memory end.0.running.memory middle.1 end.1))))

pub returns-clause-ends : goal.returns-clause-ends
returns-clause-ends g c =
    let victims = c.args.victims.now in
    let keys = c.sort.new.self.keys in
    let dirty = c.collect_keys.ensures.dirty in
    let same = ap (λ (t : TableValue). length t.blocks) dirty in
    let two = c.in_ok-move_blocks.ensures.ends in
    done_then (moved_lifted {left = c.args.most} {left' = c.args.most} (g.met.D.SectorDevice.lawful c.args.device.now)
    c.collect_keys.ensures.relocates c.are_in_order.ensures c.collect_keys.ensures.last (omega (arith, same))
    (log_kept c.collect_keys.ensures.relocates dirty))
    (lists_on (g.D.SectorDevice.state c.args.device.now) (g.D.SectorDevice.state c.collect_keys.new.device) c.args.pass.now
    c.collect_keys.new.memory victims c.collect_keys.new.keys.keys keys c.in-Ok.ensures.lists c.sort.ensures.moved dirty)
    c.in-Ok.ensures.no_failure (λ M M' M'' r go. all_out victims keys M M' M'' r go) (two.moves (λ is. absurd (cc))) two.done two.no_failure

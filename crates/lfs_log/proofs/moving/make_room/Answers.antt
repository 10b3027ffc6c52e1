use Rattle.std.proofs.Common.{refl, arith, ap}
use Rattle.lfs_memory.specs.inodes.Blocks.{Capacity}
use Rattle.lfs_log.proofs.GroupOrder.{few_above}
use Rattle.lfs_log.proofs.Movings.{ends_done, moved_lifted, moved_none, relocates_still}
use Rattle.lfs_log.proofs.moving.make_room.Goals as goal

pub returns-then-len-capacity-clause-ends : goal.returns-then-len-capacity-clause-ends
returns-then-len-capacity-clause-ends g c =
    ends_done (moved_lifted (g.met.D.SectorDevice.lawful c.args.device.now) (relocates_still c.args.memory.now c.requires.memory)
    c.are_in_order.ensures refl (omega arith) (λ k m0 m keeps is. is))
    (λ k m0 m keeps is. (is, moved_none c.args.left c.args.at_group (omega arith) is.running.memory)) refl

pub returns-in-Ok-clause-room : goal.returns-in-Ok-clause-room
returns-in-Ok-clause-room g c =
    let few = few_above c.put_leaves.new.memory c.args.at_group c.are_in_order-in-Ok.ensures c.in-Ok.ensures.alone in
    let same = ap (λ (c : Capacity). c.limit) (c.in-Ok.ensures.ends.moves (λ is. absurd (cc))).capacity in
    let limit = c.requires.limit in
    omega (arith, few, same, limit)

use Rattle.std.proofs.Common.{◌≡◌, ⊎_elim, ◌∙◌, ap, arith, inr}
use Rattle.lfs_model.specs.Memory.{Memory}
use Rattle.lfs_memory.specs.Lifting.{IsInMemory}
use Rattle.lfs_memory.specs.Moving.{HoldsOn}
use Rattle.lfs_memory.specs.inodes.Key.{entry_of}
use Rattle.lfs_memory.specs.inodes.Blocks.{Capacity}
use Rattle.lfs_memory.proofs.of_inodes.Codes.{of_file}
use Rattle.lfs_log.specs.Groups.{group_of}
use Rattle.lfs_log.specs.Moving.{Moved, StandsAmong, depth}
use Rattle.lfs_log.proofs.Movings.{cleanable_after, data_lowest, done_then, ends_as}
use Rattle.lfs_log.proofs.Movings.{ends_halted, ends_on, ends_then, inside_some, lacks_behind}
use Rattle.lfs_log.proofs.Movings.{halts_behind, halts_saving, lacks_one, moved_in, moved_join, moved_out, moved_saved, moved_then, on_then}
use Rattle.lfs_log.proofs.Movings.{placed_outside, room_after, volume_after}
use Rattle.lfs_log.proofs.GroupOrder.{data_closes, data_key, data_no_top, depth_above, depth_most, waiting_no_data}
use Rattle.lfs_log.proofs.moving.move_data.Goals as goal

pub bring-requires-clause-room : goal.bring-requires-clause-room
bring-requires-clause-room g c =
    let x = entry_of c.args.key in
    let deep = depth_above x (data_no_top c.args.key.code c.requires.data_block) in
    let most = depth_most x in
    let same = ap depth c.above_data-above.ensures.parent in
    let room = c.requires.room in
    omega (arith, deep, most, same, room)

pub returns-in_err-bring-clause-ends : goal.returns-in_err-bring-clause-ends
returns-in_err-bring-clause-ends g c =
    let x = entry_of c.args.key in
    let up = c.above_data-above.ensures.parent in
    ends_on c.from_residual.result c.in_err-bring.field-0.0 c.from_residual.ensures
    (ends_as (λ k m0 m is p. rw up (is.running.laid.down x (let at = p.0 in omega (arith, at)))) (λ M M' r. r) (λ k m0 m is l. l)
    (c.in_err-bring.ensures.ends c.args.victims.now (group_of x) c.above_data-above.ensures.above))

pub bring_one-requires-clause-outside : goal.bring_one-requires-clause-outside
bring_one-requires-clause-outside g c is =
    let group = group_of (entry_of c.args.key) in
    waiting_no_data group (entry_of c.args.key)
    (c.bring.ensures.waits group c.above_data-above.ensures.above c.requires.waits (entry_of c.args.key) is)
    (data_key c.args.key.code c.requires.data_block)

pub bring_one-requires-clause-room : goal.bring_one-requires-clause-room
bring_one-requires-clause-room g c =
    let x = entry_of c.args.key in
    let deep = depth_above x (data_no_top c.args.key.code c.requires.data_block) in
    let most = depth_most x in
    let up = ap depth c.above_data-above.ensures.parent in
    let more = c.bring.ensures.more in
    let same = ap (λ (c : Capacity). c.limit) c.bring.ensures.capacity in
    let room = c.requires.room in
    omega (arith, deep, most, up, more, same, room)

pub returns-in_err-bring_one-clause-ends : goal.returns-in_err-bring_one-clause-ends
returns-in_err-bring_one-clause-ends g c =
    let x = entry_of c.args.key in
    let one = c.in_ok-bring.ensures.ends c.args.victims.now (group_of x) c.above_data-above.ensures.above in
    let own = data_key c.args.key.code c.requires.data_block in
    ends_on c.from_residual-in_err-bring_one.result c.in_err-bring_one.field-0.0 c.from_residual-in_err-bring_one.ensures
    (ends_then (one.moves (λ is. absurd (cc))) {R = λ (M M' : Memory). Unit {0}} one.done one.no_failure
    (λ k m0 m is is' r p. let at = p.0 in let same = r.0.same x own in omega (arith, at, same))
    (λ M M' M'' r came. tt)
    (λ k m0 m is M' r p lacks. lacks_behind r.0.moved
    (lacks_one x (of_file c.args.key.code) (inr (rw (r.0.same x own) p.1)) lacks.0 lacks.1))
    c.in_err-bring_one.ensures.ends)

pub save_block-requires-clause-room : goal.save_block-requires-clause-room
save_block-requires-clause-room g c =
    let x = entry_of c.args.key in
    let one = c.in_ok-bring.ensures.ends c.args.victims.now (group_of x) c.above_data-above.ensures.above in
    let both = moved_then (one.moves (λ is. absurd (cc))) (c.in_ok-bring_one.ensures.ends.moves (λ is. absurd (cc))) in
    let room = room_after both c.requires.spare in
    let some = inside_some c.bring_one.new.memory x c.in_ok-bring_one.ensures.inside in
    omega (arith, room, some)

pub save_block-requires-clause-lowest : goal.save_block-requires-clause-lowest
save_block-requires-clause-lowest g c =
    data_lowest c.bring_one.new.memory (entry_of c.args.key) (data_key c.args.key.code c.requires.data_block)
    c.in_ok-bring_one.ensures.inside

pub save_block-requires-clause-size : goal.save_block-requires-clause-size
save_block-requires-clause-size g c =
    let x = entry_of c.args.key in
    let one = c.in_ok-bring.ensures.ends c.args.victims.now (group_of x) c.above_data-above.ensures.above in
    let both = moved_then (one.moves (λ is. absurd (cc))) (c.in_ok-bring_one.ensures.ends.moves (λ is. absurd (cc))) in
    volume_after both c.requires.size

pub returns-in-Ok-clause-ends : goal.returns-in-Ok-clause-ends
returns-in-Ok-clause-ends g c =
    let x = entry_of c.args.key in
    let group = group_of x in
    let victims = c.args.victims.now in
    let own = data_key c.args.key.code c.requires.data_block in
    let file = of_file c.args.key.code in
    let one = c.in_ok-bring.ensures.ends victims group c.above_data-above.ensures.above in
    let two = c.in_ok-bring_one.ensures.ends in
    let both = moved_then (one.moves (λ is. absurd (cc))) (two.moves (λ is. absurd (cc))) in
    let left = c.bring_one.new.left in
    let first : HoldsOn (g.D.SectorDevice.state c.args.device.now) (g.D.SectorDevice.state c.bring_one.new.device) c.args.memory.now
    c.bring_one.new.memory (λ (M M' : Memory). StandsAmong victims x M → Moved victims c.args.left.now left group group M M') =
    on_then two.carries.kept_before
    (λ M M' M'' r came stands. moved_join r.0.moved (moved_in came.0 file (inr (rw (r.0.same x own) stands.1)) came.1))
    one.done two.done in
    done_then both first (two.no_failure ∙ one.no_failure)
    (λ M M' M'' r out stands. (
      moved_join (r stands) (moved_out left group (omega arith) (let low = data_closes x own in omega (arith, low)) out.0
          (placed_outside c.bring_one.new.memory c.save_block.new.memory victims (M''.at x)
          (cleanable_after victims both c.requires.victims) c.in-Ok.ensures.cleanable out.1)),
      λ up among. placed_outside c.bring_one.new.memory c.save_block.new.memory victims (M''.at x)
          (cleanable_after victims both c.requires.victims) c.in-Ok.ensures.cleanable out.1 among,
    ))
    (moved_saved left c.in-Ok.ensures.saves.done c.in-Ok.ensures.fewer c.in-Ok.ensures.capacity c.are_in_order-in-Ok.ensures
    c.save_block.ensures.kept c.in-Ok.ensures.cleanable c.in-Ok.ensures.spares)
    c.in-Ok.ensures.moves c.in-Ok.ensures.saves.done.goes.no_failure

pub returns-in-Ok-clause-waits : goal.returns-in-Ok-clause-waits
returns-in-Ok-clause-waits g c y inside =
    let x = entry_of c.args.key in
    ⊎_elim
    (λ (was : IsInMemory c.bring.new.memory y).
    c.bring.ensures.waits (group_of x) c.above_data-above.ensures.above c.requires.waits y was)
    (λ (here : y ≡ x). absurd (c.in-Ok.ensures.out.gone (rw here at inside)))
    (c.bring_one.ensures.came y (c.in-Ok.ensures.out.only y inside))

pub returns-in-Err-clause-ends : goal.returns-in-Err-clause-ends
returns-in-Err-clause-ends g c =
    let x = entry_of c.args.key in
    let one = c.in_ok-bring.ensures.ends c.args.victims.now (group_of x) c.above_data-above.ensures.above in
    let both = moved_then (one.moves (λ is. absurd (cc))) (c.in_ok-bring_one.ensures.ends.moves (λ is. absurd (cc))) in
    ends_halted (halts_behind both (halts_saving c.bring_one.new.left (inside_some c.bring_one.new.memory x
    c.in_ok-bring_one.ensures.inside)
    c.in-Err.ensures.saves.stopped))

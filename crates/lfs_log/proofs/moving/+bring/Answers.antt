use Rattle.std.proofs.Common.{rules, ◌≡◌, ◌≤◌, ⊎_elim, ◌∙◌, Some, None, refl, sym, ap, arith, inl, inr}
use Rattle.lfs_memory.specs.Lifting.{IsInMemory}
use Rattle.lfs_memory.specs.inodes.Blocks.{Capacity, blocks_of}
use Rattle.lfs_memory.specs.inodes.Key.{entry_of}
use Rattle.lfs_memory.proofs.of_inodes.Codes.{of_file}
use Rattle.lfs_log.specs.Moving.{BringsAbove, depth}
use Rattle.lfs_log.proofs.Movings.{above_in, above_join, ends_as, ends_done, ends_on, ends_then, lacks_behind, lacks_one, moved_lifted}
use Rattle.lfs_log.proofs.Movings.{moved_none, relocates_still}
use Rattle.lfs_log.proofs.GroupOrder.{above_open, above_parent, depth_above, depth_some, not_top}
use Rattle.lfs_log.proofs.moving.+bring.Goals as goal

pub returns-then-has_block-clause-ends : goal.returns-then-has_block-clause-ends
returns-then-has_block-clause-ends g t c victims group above =
    ends_done (moved_lifted (g.met.D.SectorDevice.lawful c.args.device.now) (relocates_still c.args.memory.now c.requires.memory)
    c.are_in_order.ensures refl (omega arith) (λ k m0 m keeps is. is))
    (λ k m0 m keeps is.
    (let there : IsInMemory c.args.memory.now (entry_of c.args.key) = c.if-has_block.ensures.yes refl in
    let brings : BringsAbove victims c.args.left.now c.args.left.now group is.running.memory is.running.memory = record {
      moved = moved_none c.args.left.now group (omega arith) is.running.memory;
      same = λ y data_block. refl;
    } in
    (is, (brings, (is.running.cached.cached (entry_of c.args.key) there.0 there.1).1)))) refl

pub returns-in_default-clause-ends : goal.returns-in_default-clause-ends
returns-in_default-clause-ends g t c victims group above =
    let x = entry_of c.args.key in
    ends_as (λ k m0 m is p. p) (λ M M' came. (above_in above came.1 came.0, came.0.now))
    (λ k m0 m is lacks. lacks_one x (of_file c.args.key.code) (inl (above_open group x above)) lacks.0 lacks.1) c.bring_one.ensures.ends

pub returns-in_default-clause-waits : goal.returns-in_default-clause-waits
returns-in_default-clause-waits g t c group above waits x inside = ⊎_elim
    (λ (was : IsInMemory c.args.memory.now x). waits x was)
    (λ (own : x ≡ entry_of c.args.key). inl (rw own above))
    (c.bring_one.ensures.came x inside)

pub returns-in_err-bring-clause-ends : goal.returns-in_err-bring-clause-ends
returns-in_err-bring-clause-ends g t c victims group above =
    let x = entry_of c.args.key in
    let up = c.in-Some.ensures.some.0 in
    ends_on c.from_residual.result c.in_err-bring.field-0.0 c.from_residual.ensures
    (ends_as (λ k m0 m is p. rw up (is.running.laid.down x p)) (λ M M' r. r) (λ k m0 m is l. l)
    (c.in_err-bring.ensures.ends victims group (rw up (above_parent group x above))))

pub returns-in_err-bring-clause-waits : goal.returns-in_err-bring-clause-waits
returns-in_err-bring-clause-waits g t c group above =
    let up = c.in-Some.ensures.some.0 in
    c.bring.ensures.waits group (rw up (above_parent group (entry_of c.args.key) above))

pub returns-in_default-clause-only : goal.returns-in_default-clause-only
returns-in_default-clause-only g t c x inside = ⊎_elim
    (λ (was : IsInMemory c.args.memory.now x). inl was)
    (λ (own : x ≡ entry_of c.args.key). inr (rw own (omega arith)))
    (c.bring_one.ensures.came x inside)

pub returns-in_err-bring-clause-only : goal.returns-in_err-bring-clause-only
returns-in_err-bring-clause-only g t c x inside =
    let up = c.in-Some.ensures.some in
    let less = depth_above (entry_of c.args.key) (not_top c.in-Some.above.formed c.args.key.formed up.0 up.1) in
    let same = ap depth up.0 in
    ⊎_elim
    (λ (was : IsInMemory c.args.memory.now x). inl was)
    (λ (low : depth x ≤ depth (entry_of c.in-Some.above)). inr (omega (arith, low, less, same)))
    (c.bring.ensures.only x inside)

pub bring_one-requires-clause-outside : goal.bring_one-requires-clause-outside
bring_one-requires-clause-outside g t c is =
    let none : blocks_of c.args.memory.now.dirty (entry_of c.args.key) ≡ None = search rules in
    let bad : None ≡ Some is.0 = sym none ∙ is.1 in absurd (cc)

pub bring_one-requires-clause-room : goal.bring_one-requires-clause-room
bring_one-requires-clause-room g t c =
    let some = depth_some (entry_of c.args.key) in let room = c.requires.room in omega (arith, some, room)

pub bring_one-requires-2-clause-outside : goal.bring_one-requires-2-clause-outside
bring_one-requires-2-clause-outside g t c is =
    let up = c.in-Some.ensures.some in
    let less = depth_above (entry_of c.args.key) (not_top c.in-Some.above.formed c.args.key.formed up.0 up.1) in
    let same = ap depth up.0 in
    let none : blocks_of c.args.memory.now.dirty (entry_of c.args.key) ≡ None = search rules in
    ⊎_elim
    (λ (was : IsInMemory c.args.memory.now (entry_of c.args.key)).
    let bad : None ≡ Some was.0 = sym none ∙ was.1 in absurd (cc))
    (λ (low : depth (entry_of c.args.key) ≤ depth (entry_of c.in-Some.above)). absurd (omega (arith, low, less, same)))
    (c.bring.ensures.only (entry_of c.args.key) is)

pub bring_one-requires-2-clause-room : goal.bring_one-requires-2-clause-room
bring_one-requires-2-clause-room g t c =
    let up = c.in-Some.ensures.some in
    let less = depth_above (entry_of c.args.key) (not_top c.in-Some.above.formed c.args.key.formed up.0 up.1) in
    let same = ap depth up.0 in
    let room = c.requires.room in
    let more = c.bring.ensures.more in
    let limit = ap (λ (c : Capacity). c.limit) c.bring.ensures.capacity in
    omega (arith, less, same, room, more, limit)

pub returns-clause-only : goal.returns-clause-only
returns-clause-only g t c x inside =
    let up = c.in-Some.ensures.some in
    let less = depth_above (entry_of c.args.key) (not_top c.in-Some.above.formed c.args.key.formed up.0 up.1) in
    let same = ap depth up.0 in
    ⊎_elim
    (λ (before : IsInMemory c.bring.new.memory x). ⊎_elim
    (λ (was : IsInMemory c.args.memory.now x). inl was)
    (λ (low : depth x ≤ depth (entry_of c.in-Some.above)). inr (omega (arith, low, less, same)))
    (c.bring.ensures.only x before))
    (λ (own : x ≡ entry_of c.args.key). inr (rw own (omega arith)))
    (c.bring_one-2.ensures.came x inside)

pub returns-clause-more : goal.returns-clause-more
returns-clause-more g t c =
    let up = c.in-Some.ensures.some in
    let less = depth_above (entry_of c.args.key) (not_top c.in-Some.above.formed c.args.key.formed up.0 up.1) in
    let same = ap depth up.0 in
    let one = c.bring.ensures.more in
    let two = c.bring_one-2.ensures.more in
    omega (arith, less, same, one, two)

pub returns-clause-ends : goal.returns-clause-ends
returns-clause-ends g t c victims group above =
    let x = entry_of c.args.key in
    let up = c.in-Some.ensures.some.0 in
    let one = c.in_ok-bring.ensures.ends victims group (rw up (above_parent group x above)) in
    ends_then (one.moves (λ is. absurd (cc))) one.done one.no_failure
    (λ k m0 m is is' r p. r.0.moved.stored x p)
    (λ M M' M'' r came. (above_join r.0 (above_in above came.1 came.0), came.0.now))
    (λ k m0 m is M' r p lacks. lacks_behind r.0.moved (lacks_one x (of_file c.args.key.code) (inl (above_open group x above))
    lacks.0 lacks.1))
    c.bring_one-2.ensures.ends

pub returns-clause-waits : goal.returns-clause-waits
returns-clause-waits g t c group above waits x inside =
    let up = c.in-Some.ensures.some.0 in
    ⊎_elim
    (λ (was : IsInMemory c.bring.new.memory x).
    c.bring.ensures.waits group (rw up (above_parent group (entry_of c.args.key) above)) waits x was)
    (λ (own : x ≡ entry_of c.args.key). inl (rw own above))
    (c.bring_one-2.ensures.came x inside)

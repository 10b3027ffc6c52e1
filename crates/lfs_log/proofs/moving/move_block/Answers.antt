use Rattle.std.proofs.Common.{◌≡◌, ◌∙◌, true, false, refl, sym, arith}
use Rattle.lfs_memory.specs.inodes.Data.{is_data_code}
use Rattle.lfs_memory.specs.inodes.Key.{entry_of}
use Rattle.lfs_log.specs.Groups.{group_of}
use Rattle.lfs_log.proofs.GroupOrder.{depth_most, own_above}
use Rattle.lfs_log.proofs.Movings.{ends_done, ends_failed, ends_then, lacks_behind, leaves_looked, loose_of, moved_join, moved_looked}
use Rattle.lfs_log.proofs.Movings.{moved_still, on_more, stands_looked}
use Rattle.lfs_log.proofs.UsageMoves.{all_ok}
use Rattle.lfs_log.proofs.moving.move_block.Goals as goal

pub returns-in-Err-clause-ends : goal.returns-in-Err-clause-ends
returns-in-Err-clause-ends g c =
    ends_failed (moved_looked c.args.memory.now c.args.left.now (g.met.D.SectorDevice.lawful c.args.device.now) c.requires.memory
    c.are_in_order.ensures c.locate.ensures.looks.looks)
    (λ k m0 m keeps is p. c.in-Err.ensures.looks.failed k m0 m keeps (loose_of is))

pub returns-then-not-is_among-clause-ends : goal.returns-then-not-is_among-clause-ends
returns-then-not-is_among-clause-ends g c =
    let x = entry_of c.args.key in
    ends_done (moved_looked c.args.memory.now c.args.left.now (g.met.D.SectorDevice.lawful c.args.device.now) c.requires.memory
    c.are_in_order.ensures c.locate.ensures.looks.looks)
    (on_more (λ M M' r. (moved_still c.args.left.now (group_of x) r.0, r.1))
    (leaves_looked (g.D.SectorDevice.state c.args.device.now) (g.D.SectorDevice.state c.locate.new.device) c.args.memory.now x
    c.in-Ok.address c.args.victims.now c.locate.ensures.looks.looks c.in-Ok.ensures.answer (c.if-not-is_among.ensures.no refl)))
    c.in-Ok.ensures.looks.no_failure

pub bring-requires-clause-room : goal.bring-requires-clause-room
bring-requires-clause-room g c =
    let deep = depth_most (entry_of c.args.key) in
    let room = c.requires.room in
    omega (arith, deep, room)

pub returns-then-is_data-clause-ends : goal.returns-then-is_data-clause-ends
returns-then-is_data-clause-ends g c =
    let x = entry_of c.args.key in
    let left = c.args.left.now in
    let yes_among = c.if-not-is_among.ensures.yes refl in
    ends_then (moved_looked c.args.memory.now left (g.met.D.SectorDevice.lawful c.args.device.now) c.requires.memory
    c.are_in_order.ensures c.locate.ensures.looks.looks)
    (stands_looked (g.D.SectorDevice.state c.args.device.now) (g.D.SectorDevice.state c.locate.new.device) c.args.memory.now x
    c.in-Ok.address c.args.victims.now c.locate.ensures.looks.looks c.in-Ok.ensures.answer yes_among.0 yes_among.1)
    c.in-Ok.ensures.looks.no_failure
    (λ k m0 m is is' r p. r.1)
    (λ M M' M'' r go. (let out = go r.1 in (moved_join (moved_still left (group_of x) r.0) out.0, out.1)))
    (λ k m0 m is M' r p lacks. lacks_behind (moved_still left (group_of x) r.0) lacks)
    c.move_data.ensures.ends

pub returns-else-is_data-clause-ends : goal.returns-else-is_data-clause-ends
returns-else-is_data-clause-ends g c =
    let x = entry_of c.args.key in
    let left = c.args.left.now in
    let yes_among = c.if-not-is_among.ensures.yes refl in
    let above = own_above c.args.key.code c.args.key.formed
    (λ (is : is_data_code c.args.key.code ≡ true).
    let bad : true ≡ false = sym is ∙ sym c.is_data.ensures ∙ c.if-is_data.false in absurd (cc)) in
    ends_then (moved_looked c.args.memory.now left (g.met.D.SectorDevice.lawful c.args.device.now) c.requires.memory
    c.are_in_order.ensures c.locate.ensures.looks.looks)
    (stands_looked (g.D.SectorDevice.state c.args.device.now) (g.D.SectorDevice.state c.locate.new.device) c.args.memory.now x
    c.in-Ok.address c.args.victims.now c.locate.ensures.looks.looks c.in-Ok.ensures.answer yes_among.0 yes_among.1)
    c.in-Ok.ensures.looks.no_failure
    (λ k m0 m is is' r p. let at = r.1.0 in omega (arith, at))
    (λ M M' M'' r go. (
      moved_join (moved_still left (group_of x) r.0) go.0.moved,
      λ up among. let one = go.1 in absurd (omega (arith, one, up)),
    ))
    (λ k m0 m is M' r p lacks. lacks_behind (moved_still left (group_of x) r.0) lacks)
    (c.bring.ensures.ends c.args.victims.now (group_of x) above)

pub returns-else-is_data-clause-waits : goal.returns-else-is_data-clause-waits
returns-else-is_data-clause-waits g c =
    let x = entry_of c.args.key in
    let above = own_above c.args.key.code c.args.key.formed
    (λ (is : is_data_code c.args.key.code ≡ true).
    let bad : true ≡ false = sym is ∙ sym c.is_data.ensures ∙ c.if-is_data.false in absurd (cc)) in
    all_ok c.bring.result _ (c.bring.ensures.waits (group_of x) above c.requires.waits)
